-- What the tests of leaves and of CR0 refuse, said of each thing that they must not let through.
use Rattle.std.proofs.Common.{◌≡◌, ◌≢◌, ℕ, ◌+◌, ◌-◌, ◌/◌, ◌%◌, ◌^◌, ◌≤◌, Bool, true, false, List, refl, sym, ap, subst, ◌∙◌, arith, inl, inr}
use Rattle.std.specs.Prelude.{IfSome, Option, Some, None, not, ◌==◌, ◌&&◌, ◌||◌, nat_lt, if◌then◌else◌}
use Rattle.std.specs.List.{position}
use Rattle.std.proofs.lemmas.Bool.{and_parts, cond-true, eqb-true, false_from_ne_true, false≢true, or_cases}
use Rattle.nk_bits.specs.declared.kind.Kind.{Kind}
use Rattle.nk_bits.specs.declared.kind.Kind.TheVariants.{Data, Code, Table, Fixed, Trap, Guarded, Hidden}
use Rattle.nk_bits.specs.declared.leaf.Leaf.{Leaf}
use Rattle.nk_bits.specs.Kinds.{allows, is_storable, kind_of}
use Rattle.nk_bits.specs.Paging.{is_slot_page}
use Rattle.elf_image.specs.Pages.{is_executable, is_writable, pages_of}
use Rattle.boot_map.specs.Division.{division_of, pages_start}
use Rattle.nk_bits.specs.KernelLayout.{gate_text, handler_slot, idt_and_tss, nested_stack, trap_stack}
use Rattle.boot_map.specs.KernelSlot.{area_leaf, fetchable, image_leaf, readable, slot_leaf, slot_start, writable}
use Rattle.gate_state.specs.GuardedStates.{IsCr0}
use Rattle.gate_state.specs.MachineStates.{Opening}
use Rattle.gate_state.specs.RespectedKinds.{fits_kind, is_code, is_leaf, respects}
use Rattle.gate_state.proofs.SceneProofsRespects.{leaf_within, respects_outside, slot_bounds}

-- the layout has the gates' text at one page of the slot alone
area_frames : (zero one two three four pool : Bool) (n : ℕ) → one ≡ false
    → IfSome (if zero then Some (readable idt_and_tss)
    else if one then Some (fetchable gate_text)
    else if two then Some (readable handler_slot)
    else if three then Some (writable trap_stack)
    else if four then Some (readable nested_stack)
    else if pool then Some (readable (10 + (n - 16)))
    else None) (λ laid. laid.frame ≢ 1)
area_frames true one two three four pool n not_one = λ (e : idt_and_tss ≡ 1). omega (arith, e)
area_frames false true two three four pool n not_one = absurd (false≢true (sym not_one))
area_frames false false true three four pool n not_one = λ (e : handler_slot ≡ 1). omega (arith, e)
area_frames false false false true four pool n not_one = λ (e : trap_stack ≡ 1). omega (arith, e)
area_frames false false false false true pool n not_one = λ (e : nested_stack ≡ 1). omega (arith, e)
area_frames false false false false false true n not_one = λ (e : 10 + (n - 16) ≡ 1). omega (arith, e)
area_frames false false false false false false n not_one = tt

image_frames : (b : List ℕ) (first n : ℕ) (k : Option ℕ) → 64 ≤ first
    → IfSome (image_leaf b first n k) (λ laid. laid.frame ≢ 1)
image_frames b first n None low = tt
image_frames b first n (Some k) low = by (is_executable b n) (is_writable b n)
  where
    by : (runs writes : Bool)
        → IfSome (if runs then Some (fetchable (first + k))
        else if writes then Some (writable (first + k))
        else Some (readable (first + k)))
        (λ laid. laid.frame ≢ 1)
    by true writes = λ (e : first + k ≡ 1). omega (arith, e, low)
    by false true = λ (e : first + k ≡ 1). omega (arith, e, low)
    by false false = λ (e : first + k ≡ 1). omega (arith, e, low)

slot_frames : (b : List ℕ) (frames page : ℕ) → slot_start ≤ page → page ≢ slot_start + 1
    → IfSome (slot_leaf b frames page) (λ laid. laid.frame ≢ 1)
unfolding slot_leaf
slot_frames b frames page low other =
    by (nat_lt page (slot_start + 32))
  where
    first : ℕ
    first = pages_start (division_of b frames)

    by : (area : Bool)
        → IfSome (if area then area_leaf (page - slot_start)
        else image_leaf b first page (position (λ m. m == page) (pages_of b)))
        (λ laid. laid.frame ≢ 1)
    by true =
        let n : ℕ = page - slot_start in
        area_frames (n == 0) (n == 1) (n == 2) (n == 3) (n == 4) _ n
        (false_from_ne_true (n == 1) (λ is. let e : n ≡ 1 = eqb-true n 1 is in other (omega (arith, e, low))))
    by false = image_frames b first page (position (λ m. m == page) (pages_of b)) (omega arith)

module _ (o : Opening) (ks : List Kind) where
  -- a leaf in the slot that may be executed, at another page than the gates' text
  abbrev IsExecutableRefused : Kind → Type 0
  IsExecutableRefused kind = (page : ℕ) (leaf : Leaf) → is_slot_page page ≡ true → page ≢ slot_start + 1
      → leaf.rights.exec ≡ true → kind_of ks leaf.frame ≡ kind → respects o ks (page, leaf) ≡ false

  code_or_gates : (leaf : Leaf) → fits_kind ks leaf ≡ true → leaf.rights.exec ≡ true
      → is_code (kind_of ks leaf.frame) ≡ false → leaf.frame ≡ 1
  code_or_gates leaf fits runs other =
      let parts = and_parts (not leaf.rights.can_write || is_storable (kind_of ks leaf.frame)) _ fits in
      let may : (leaf.frame == 1 || is_code (kind_of ks leaf.frame)) ≡ true =
      subst (λ (x : Bool). (not x || (leaf.frame == 1 || is_code (kind_of ks leaf.frame))) ≡ true) runs parts.1 in
      elim (or_cases (leaf.frame == 1) (is_code (kind_of ks leaf.frame)) may) [
        | inl gate ↦ eqb-true leaf.frame 1 gate
        | inr code ↦ absurd (false≢true (sym other ∙ code))
      ]

  fits_within : (page : ℕ) (leaf : Leaf) → is_slot_page page ≡ true → respects o ks (page, leaf) ≡ true
      → fits_kind ks leaf ≡ true
  unfolding respects
  fits_within page leaf within is =
      (and_parts (is_leaf (slot_leaf o.image o.frames page) leaf) (fits_kind ks leaf)
      (sym (cond-true (is_slot_page page) _ _ within) ∙ is)).1

  executable_refused : (kind : Kind) → is_code kind ≡ false → IsExecutableRefused kind
  executable_refused kind other page leaf within elsewhere runs is =
      false_from_ne_true (respects o ks (page, leaf)) (λ respected.
      let gate : leaf.frame ≡ 1 = code_or_gates leaf (fits_within page leaf within respected) runs (ap is_code is ∙ other) in
      let laid : slot_leaf o.image o.frames page ≡ Some leaf = leaf_within o ks page leaf within respected in
      subst (λ (found : Option Leaf). IfSome found (λ laid. laid.frame ≢ 1)) laid
      (slot_frames o.image o.frames page (slot_bounds page within).0 elsewhere) gate)

  pub executable_data_in_the_slot_is_not_respected : IsExecutableRefused Data
  executable_data_in_the_slot_is_not_respected = executable_refused Data refl

  pub an_executable_table_in_the_slot_is_not_respected : (level : ℕ) → IsExecutableRefused (Table level)
  an_executable_table_in_the_slot_is_not_respected level = executable_refused (Table level) refl

  pub an_executable_fixed_frame_in_the_slot_is_not_respected : IsExecutableRefused Fixed
  an_executable_fixed_frame_in_the_slot_is_not_respected = executable_refused Fixed refl

  pub an_executable_trap_stack_in_the_slot_is_not_respected : IsExecutableRefused Trap
  an_executable_trap_stack_in_the_slot_is_not_respected = executable_refused Trap refl

  pub an_executable_guarded_frame_in_the_slot_is_not_respected : IsExecutableRefused Guarded
  an_executable_guarded_frame_in_the_slot_is_not_respected = executable_refused Guarded refl

  pub an_executable_hidden_frame_in_the_slot_is_not_respected : IsExecutableRefused Hidden
  an_executable_hidden_frame_in_the_slot_is_not_respected = executable_refused Hidden refl

  -- a leaf outside the slot that may be written
  abbrev IsWritableRefused : Kind → Type 0
  IsWritableRefused kind = (page : ℕ) (leaf : Leaf) → is_slot_page page ≡ false
      → leaf.rights.can_write ≡ true → kind_of ks leaf.frame ≡ kind → respects o ks (page, leaf) ≡ false

  writable_refused : (kind : Kind) (page : ℕ) (leaf : Leaf) → is_slot_page page ≡ false → kind_of ks leaf.frame ≡ kind
      → allows kind leaf.rights ≡ false → respects o ks (page, leaf) ≡ false
  writable_refused kind page leaf outside is refused =
      respects_outside o ks page leaf outside ∙ ap (λ (k : Kind). allows k leaf.rights) is ∙ refused

  not_read_only : (leaf : Leaf) → leaf.rights.can_write ≡ true
      → (not leaf.rights.can_write && not leaf.rights.user && not leaf.rights.exec) ≡ false
  not_read_only leaf writes = ap (λ (w : Bool). not w && not leaf.rights.user && not leaf.rights.exec) writes

  pub a_writable_page_table_is_not_respected : (level : ℕ) → IsWritableRefused (Table level)
  a_writable_page_table_is_not_respected level page leaf outside writes is =
      writable_refused (Table level) page leaf outside is (not_read_only leaf writes)

  pub writable_code_is_not_respected : IsWritableRefused Code
  writable_code_is_not_respected page leaf outside writes is =
      writable_refused Code page leaf outside is (not_read_only leaf writes)

  pub a_writable_fixed_frame_is_not_respected : IsWritableRefused Fixed
  a_writable_fixed_frame_is_not_respected page leaf outside writes is =
      writable_refused Fixed page leaf outside is (not_read_only leaf writes)

  pub a_writable_guarded_frame_is_not_respected : IsWritableRefused Guarded
  a_writable_guarded_frame_is_not_respected page leaf outside writes is =
      writable_refused Guarded page leaf outside is (not_read_only leaf writes)

  pub a_writable_hidden_frame_is_not_respected : IsWritableRefused Hidden
  a_writable_hidden_frame_is_not_respected page leaf outside writes is =
      writable_refused Hidden page leaf outside is refl

-- bit 31 of CR0, PG, is set
pub cr0_without_paging_is_not_lawful : (cr0 : ℕ) → cr0 / 2 ^ 31 % 2 ≡ 0 → IsCr0 cr0 → ⊥
cr0_without_paging_is_not_lawful cr0 clear (inl is) = omega (arith, clear, is)
cr0_without_paging_is_not_lawful cr0 clear (inr (inl is)) = omega (arith, clear, is)
cr0_without_paging_is_not_lawful cr0 clear (inr (inr (inl is))) = omega (arith, clear, is)
cr0_without_paging_is_not_lawful cr0 clear (inr (inr (inr (inl is)))) = omega (arith, clear, is)
cr0_without_paging_is_not_lawful cr0 clear (inr (inr (inr (inr (inl is))))) = omega (arith, clear, is)
cr0_without_paging_is_not_lawful cr0 clear (inr (inr (inr (inr (inr is))))) = omega (arith, clear, is)
