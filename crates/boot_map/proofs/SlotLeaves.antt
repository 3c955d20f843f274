-- What the leaves of the kernel slot grant, and to which frames.
use Rattle.std.proofs.Common.{◌≡◌, ◌==◌, ◌&&◌, ◌⊎◌, ℕ, ◌+◌, ◌-◌, ◌<◌, ◌≤◌, Bool, true, false, cond, List, length, get_or, nat_lt, nat_le, Option, Some, None, refl, ap, ◌∙◌, arith, inl, inr}
use Rattle.std.specs.Prelude.{IfSome, if◌then◌else◌}
use Rattle.std.proofs.lemmas.Bool.{and_parts, cond-true, cond-false, lt-ltb, le-ltb, eqb-true, ltb-true, false≢true}
use Rattle.std.proofs.lemmas.List.Quantifiers.{position-Some}
use Rattle.std.specs.List.{position}
use Rattle.nk_bits.specs.declared.leaf.Leaf.{Leaf}
use Rattle.nk_bits.specs.declared.kind.Kind.TheVariants.{Data, Code, Trap}
use Rattle.nk_bits.specs.Kinds.{is_storable}
use Rattle.elf_image.specs.Pages.{is_executable, is_writable, pages_of}
use Rattle.boot_map.specs.declared.part.Part.TheVariants.{ImagePage}
use Rattle.nk_bits.specs.KernelLayout.{gate_text, handler_slot, idt_and_tss, nested_stack, trap_stack}
use Rattle.boot_map.specs.Division.{Division, IsLayout, division_of, free_start, map_start, pages_start, tables_start}
use Rattle.boot_map.specs.Parts.{part_at}
use Rattle.boot_map.specs.OpeningKinds.{kind_at, kind_of_part}
use Rattle.boot_map.specs.KernelSlot.{IsCodePage, area_leaf, fetchable, image_leaf, readable, slot_leaf, slot_start, writable}
use Rattle.boot_map.proofs.WalkLaws.{sized_at}

-- the frame of the image's page number k
pub image_page_part : (d : Division) (k : ℕ) → k < d.pages → part_at d (pages_start d + k) ≡ ImagePage k
image_page_part d k small =
    let place : pages_start d + k - pages_start d ≡ k = omega arith in
    sized_at d (pages_start d + k) (omega arith)
    ∙ cond-false (nat_lt (pages_start d + k) (tables_start d)) _ _ (le-ltb _ _ (omega arith))
    ∙ cond-false (nat_lt (pages_start d + k) (pages_start d)) _ _ (le-ltb _ _ (omega arith))
    ∙ cond-true (nat_lt (pages_start d + k) (map_start d)) _ _ (lt-ltb _ _ (omega arith)) ∙ ap ImagePage place

-- what holds of both leaves of a choice
some_choice : (P : Leaf → Type 0) (c : Bool) (x y : Option Leaf) → (c ≡ true → IfSome x P) → (c ≡ false → IfSome y P) → IfSome (cond c x y) P
some_choice P true x y first second = first refl
some_choice P false x y first second = second refl

-- what holds of each leaf of the nested area
area_each : (P : Leaf → Type 0) (n : ℕ) → P (readable idt_and_tss) → (n ≡ 1 → P (fetchable gate_text)) → P (readable handler_slot) → P (writable trap_stack) → P (readable nested_stack)
    → ((i : ℕ) → i < 32 → P (readable (10 + (i - 16)))) → IfSome (area_leaf n) P
area_each P n zeroth first second third fourth pool =
    some_choice P (n == 0) _ _ (λ t. zeroth) (λ t.
    some_choice P (n == 1) _ _ (λ t. first (eqb-true n 1 t)) (λ t.
    some_choice P (n == 2) _ _ (λ t. second) (λ t.
    some_choice P (n == 3) _ _ (λ t. third) (λ t.
    some_choice P (n == 4) _ _ (λ t. fourth) (λ t.
    some_choice P (nat_le 16 n && nat_lt n 32) (Some (readable (10 + (n - 16)))) None (λ t. pool n (ltb-true n 32 (and_parts (nat_le 16 n) (nat_lt n 32) t).1)) (λ t. tt))))))

-- what holds of the leaf of a page of the image
image_each : (P : Leaf → Type 0) (b : List ℕ) (first n : ℕ) (o : Option ℕ) →
    ((k : ℕ) → o ≡ Some k → is_executable b n ≡ true → P (fetchable (first + k))) → ((k : ℕ) → o ≡ Some k → is_executable b n ≡ false → P (writable (first + k))) → ((k : ℕ) → o ≡ Some k → P (readable (first + k)))
    → IfSome (image_leaf b first n o) P
image_each P b first n (Some k) fetch write read =
    some_choice P (is_executable b n) _ _ (λ t. fetch k refl t) (λ t. some_choice P (is_writable b n) _ _ (λ w. write k refl t) (λ w. read k refl))
image_each P b first n None fetch write read = tt

-- what holds of the leaf of each page of the slot
slot_each : (P : Leaf → Type 0) (b : List ℕ) (frames page : ℕ) → P (readable idt_and_tss) → (page ≡ slot_start + 1 → P (fetchable gate_text)) → P (readable handler_slot) → P (writable trap_stack) → P (readable nested_stack)
    → ((i : ℕ) → i < 32 → P (readable (10 + (i - 16))))
    → ((k : ℕ) → k < length (pages_of b) → get_or (pages_of b) k 0 ≡ page → is_executable b page ≡ true → P (fetchable (pages_start (division_of b frames) + k)))
    → ((k : ℕ) → k < length (pages_of b) → get_or (pages_of b) k 0 ≡ page → is_executable b page ≡ false → P (writable (pages_start (division_of b frames) + k)))
    → ((k : ℕ) → k < length (pages_of b) → P (readable (pages_start (division_of b frames) + k)))
    → IfSome (slot_leaf b frames page) P
unfolding slot_leaf
slot_each P b frames page zeroth first second third fourth pool fetch write read =
    let d : Division = division_of b frames in
    let at : (k : ℕ) → position (λ m. m == page) (pages_of b) ≡ Some k → (k < length (pages_of b)) × (get_or (pages_of b) k 0 ≡ page) =
    λ k e. let found = position-Some (λ m. m == page) (pages_of b) k 0 e in (found.0, eqb-true (get_or (pages_of b) k 0) page found.1) in
    some_choice P (nat_lt page (slot_start + 32)) _ _
    (λ t. area_each P (page - slot_start) zeroth (λ e. first (omega (arith, e))) second third fourth pool)
    (λ t. image_each P b (pages_start d) page (position (λ m. m == page) (pages_of b)) (λ k e x. fetch k (at k e).0 (at k e).1 x) (λ k e x. write k (at k e).0 (at k e).1 x) (λ k e. read k (at k e).0))

-- no leaf of the slot is the user's
pub slot_supervisor : (b : List ℕ) (frames page : ℕ) → IfSome (slot_leaf b frames page) (λ leaf. leaf.rights.user ≡ false)
slot_supervisor b frames page =
    slot_each (λ leaf. leaf.rights.user ≡ false) b frames page refl (λ e. refl) refl refl refl (λ i h. refl) (λ k h e x. refl) (λ k h e x. refl) (λ k h. refl)

-- each names a frame in memory
pub slot_in_memory : (b : List ℕ) (frames page : ℕ) → IsLayout b (division_of b frames) → IfSome (slot_leaf b frames page) (λ leaf. leaf.frame < frames)
slot_in_memory b frames page layout =
    let least : 512 ≤ frames = layout.least in
    let room : free_start (division_of b frames) ≤ frames = layout.room in
    slot_each (λ leaf. leaf.frame < frames) b frames page (omega arith) (λ e. omega arith) (omega arith) (omega arith) (omega arith) (λ i h. omega arith)
    (λ k h e x. omega arith) (λ k h e x. omega arith) (λ k h. omega arith)

-- an executable one is the gates', or that of an executable page of the image, which stands at its own address
pub slot_executable : (b : List ℕ) (frames page : ℕ) → IfSome (slot_leaf b frames page) (λ leaf. leaf.rights.exec ≡ true → ((page ≡ slot_start + 1) × (leaf.frame ≡ gate_text)) ⊎ IsCodePage b frames page leaf.frame)
slot_executable b frames page =
    slot_each (λ leaf. leaf.rights.exec ≡ true → ((page ≡ slot_start + 1) × (leaf.frame ≡ gate_text)) ⊎ IsCodePage b frames page leaf.frame) b frames page
    (λ x. absurd (false≢true x)) (λ e x. inl (e, refl)) (λ x. absurd (false≢true x)) (λ x. absurd (false≢true x)) (λ x. absurd (false≢true x)) (λ i h x. absurd (false≢true x))
    (λ k h e x y. inr (record { place = k; within = h; page_is = e; executable = x; frame_is = refl }))
    (λ k h e x y. absurd (false≢true y)) (λ k h y. absurd (false≢true y))

-- the kind of the frame of the image's page number k
image_kind : (b : List ℕ) (frames k : ℕ) → k < length (pages_of b) → kind_at b frames (pages_start (division_of b frames) + k) ≡ (if is_executable b (get_or (pages_of b) k 0) then Code else Data)
unfolding kind_at
image_kind b frames k small = ap (kind_of_part b) (image_page_part (division_of b frames) k small)

-- the frame of an executable page of the image is code
pub code_kind : (b : List ℕ) (frames page frame : ℕ) → IsCodePage b frames page frame → kind_at b frames frame ≡ Code
code_kind b frames page frame code =
    ap (kind_at b frames) code.frame_is ∙ image_kind b frames code.place code.within
    ∙ cond-true (is_executable b (get_or (pages_of b) code.place 0)) Code Data (ap (is_executable b) code.page_is ∙ code.executable)

pub trap_kind : (b : List ℕ) (frames : ℕ) → kind_at b frames trap_stack ≡ Trap
unfolding kind_at part_at
trap_kind b frames = refl

-- a writable one names a frame that may be stored to
pub slot_writable : (b : List ℕ) (frames page : ℕ) → IfSome (slot_leaf b frames page) (λ leaf. leaf.rights.can_write ≡ true → is_storable (kind_at b frames leaf.frame) ≡ true)
slot_writable b frames page =
    slot_each (λ leaf. leaf.rights.can_write ≡ true → is_storable (kind_at b frames leaf.frame) ≡ true) b frames page
    (λ x. absurd (false≢true x)) (λ e x. absurd (false≢true x)) (λ x. absurd (false≢true x)) (λ x. ap is_storable (trap_kind b frames)) (λ x. absurd (false≢true x)) (λ i h x. absurd (false≢true x))
    (λ k h e x y. absurd (false≢true y))
    (λ k h e x y. ap is_storable (image_kind b frames k h ∙ cond-false (is_executable b (get_or (pages_of b) k 0)) Code Data (ap (is_executable b) e ∙ x)))
    (λ k h y. absurd (false≢true y))
