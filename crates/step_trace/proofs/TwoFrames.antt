-- Memories between which no more than two frames changed from one on, told and copied by a copy that has these as they were.
use Rattle.std.proofs.Common.{◌≡◌, ◌≢◌, ◌⊎◌, inl, inr, ℕ, zero, suc, ◌+◌, ◌-◌, ◌*◌, ◌/◌, ◌<◌, ◌≤◌, min, max, List, [], ◌++◌, length, arith, refl, sym, ap, ◌∙◌, append_assoc}
use Rattle.std.proofs.lemmas.Bool.{cases_lt}
use Rattle.std.proofs.lemmas.List.{append-nil, get_or_past}
use Rattle.phys_mem.specs.Memory.{byte_at, frame_bytes}
use Rattle.gate_state.specs.declared.touched.StepTouched.TheVariants.{Any, Body, Frames}
use Rattle.gate_state.specs.StepsTouched.{KeepsOutside}
use Rattle.step_trace.specs.CopiesOfMemory.{IsCopyFor, IsTouched}
use Rattle.step_trace.specs.StepChanges.{Change, memory_changes, runs}
use Rattle.step_trace.specs.StepTexts.{changes_text}
use Rattle.step_trace.proofs.ToldMemory.{frame_agrees, frame_past, none_changed, one_changed, same_memory, text_behind, two_changed}

-- a copy has two frames, unless they are below a number
abbrev pub HasTwo : (f one two : ℕ) (c b : List ℕ) → Type 0
HasTwo f one two c b = (p : ℕ) → f ≤ p / 4096 → IsTouched (Frames one two) p → byte_at c p ≡ byte_at b p

-- two numbers in order
apart : (q one two first last : ℕ) → first ≡ min one two → last ≡ max one two → q ≢ first → q ≢ last → (q ≢ one) × (q ≢ two)
apart q one two first last least most a b = (
  λ e. elim (cases_lt one two) [ inl low ↦ a (omega (arith, low, e, least)) | inr high ↦ b (omega (arith, high, e, most)) ],
  λ e. elim (cases_lt one two) [ inl low ↦ b (omega (arith, low, e, most)) | inr high ↦ a (omega (arith, high, e, least)) ],
)

is_first : (q one two first : ℕ) → first ≡ min one two → q ≡ first → (q ≡ one) ⊎ (q ≡ two)
is_first q one two first least here =
    elim (cases_lt one two) [ inl low ↦ inl (omega (arith, low, here, least)) | inr high ↦ inr (omega (arith, high, here, least)) ]

is_last : (q one two last : ℕ) → last ≡ max one two → q ≡ last → (q ≡ one) ⊎ (q ≡ two)
is_last q one two last most here =
    elim (cases_lt one two) [ inl low ↦ inr (omega (arith, low, here, most)) | inr high ↦ inl (omega (arith, high, here, most)) ]

-- a byte that is in neither stays
pub stays_outside : (f one two first last : ℕ) (b m : List ℕ) → first ≡ min one two → last ≡ max one two → KeepsOutside (Body f one two) b m
    → (p : ℕ) → f ≤ p / 4096 → p / 4096 ≢ first → p / 4096 ≢ last → byte_at m p ≡ byte_at b p
stays_outside f one two first last b m least most keeps p low a z = keeps p (low, apart (p / 4096) one two first last least most a z)

-- where both are below, no frame from there on changed
pub none_from : (was b m : List ℕ) (f one two last : ℕ) → last ≡ max one two → last < f → length b ≡ length m → KeepsOutside (Body f one two) b m
    → was ≡ was ++ changes_text (memory_changes (length m / 4096 - f) f b m)
none_from was b m f one two last most below size keeps =
    sym (ap (λ r. was ++ changes_text r)
    (none_changed (length m / 4096 - f) f b m
    (λ g low. frame_agrees b m g size (λ p here. sym (stays_outside f one two (min one two) last b m refl most keeps p (omega (arith, here, low))
    (λ e. absurd (omega (arith, here, low, e, most, below))) (λ e. absurd (omega (arith, here, low, e, below)))))))
    ∙ append-nil was)

-- where the first is below, or is the second, that one alone may have
first_away : (q f first last : ℕ) → (first < f) ⊎ ((f ≤ first) × (first ≡ last)) → f ≤ q → q ≢ last → q ≢ first
first_away q f first last alone low other e = elim alone [ inl below ↦ absurd (omega (arith, below, low, e)) | inr same ↦ other (e ∙ same.1) ]

pub one_from : (was now c b m : List ℕ) (n f one two first last : ℕ) → first ≡ min one two → last ≡ max one two
    → (first < f) ⊎ ((f ≤ first) × (first ≡ last)) → f ≤ last → length c ≡ length m → length b ≡ length m → 4096 * n ≡ length m
    → KeepsOutside (Body f one two) b m → HasTwo f one two c b
    → now ≡ was ++ changes_text (runs (4096 * last) 0 (frame_bytes c last) (frame_bytes m last))
    → now ≡ was ++ changes_text (memory_changes (length m / 4096 - f) f b m)
one_from was now c b m n f one two first last least most alone low csize size whole keeps has told =
    told
    ∙ ap (λ l. was ++ changes_text (runs (4096 * last) 0 l (frame_bytes m last)))
    (frame_agrees c b last (csize ∙ sym size) (λ p here. has p (omega (arith, here, low)) (is_last (p / 4096) one two last most here)))
    ∙ ap (λ r. was ++ changes_text r)
    (sym (one_changed (length m / 4096 - f) f last b m low
    (λ g behind other. frame_agrees b m g size (λ p here. sym (stays_outside f one two first last b m least most keeps p (omega (arith, here, behind))
    (first_away (p / 4096) f first last alone (omega (arith, here, behind)) (λ e. other (sym here ∙ e))) (λ e. other (sym here ∙ e)))))
    (λ g past. frame_past b m g size (omega (arith, past, whole)))))

-- and both else
pub two_from : (was mid now c d b m : List ℕ) (n f one two first last : ℕ) → first ≡ min one two → last ≡ max one two
    → f ≤ first → first ≢ last → length c ≡ length m → length d ≡ length m → length b ≡ length m → 4096 * n ≡ length m
    → KeepsOutside (Body f one two) b m → HasTwo f one two c b → ((p : ℕ) → p / 4096 ≢ first → byte_at d p ≡ byte_at c p)
    → mid ≡ was ++ changes_text (runs (4096 * first) 0 (frame_bytes c first) (frame_bytes m first))
    → now ≡ mid ++ changes_text (runs (4096 * last) 0 (frame_bytes d last) (frame_bytes m last))
    → now ≡ was ++ changes_text (memory_changes (length m / 4096 - f) f b m)
two_from was mid now c d b m n f one two first last least most low other csize dsize size whole keeps has left front_told back_told =
    let order : first < last = omega (arith, least, most, other) in
    let front : List Change = runs (4096 * first) 0 (frame_bytes b first) (frame_bytes m first) in
    let back : List Change = runs (4096 * last) 0 (frame_bytes b last) (frame_bytes m last) in
    let first_as : frame_bytes c first ≡ frame_bytes b first =
    frame_agrees c b first (csize ∙ sym size) (λ p here. has p (omega (arith, here, low)) (is_first (p / 4096) one two first least here)) in
    let last_as : frame_bytes d last ≡ frame_bytes b last =
    frame_agrees d b last (dsize ∙ sym size)
    (λ p here. left p (λ e. other (sym e ∙ here)) ∙ has p (omega (arith, here, low, order)) (is_last (p / 4096) one two last most here)) in
    let changes : memory_changes (length m / 4096 - f) f b m ≡ front ++ back =
    two_changed (length m / 4096 - f) f first last b m low order
    (λ g behind a z. frame_agrees b m g size (λ p here. sym (stays_outside f one two first last b m least most keeps p (omega (arith, here, behind))
    (λ e. a (sym here ∙ e)) (λ e. z (sym here ∙ e)))))
    (λ g past. frame_past b m g size (omega (arith, past, whole))) in
    back_told ∙ ap (λ l. mid ++ changes_text (runs (4096 * last) 0 l (frame_bytes m last))) last_as
    ∙ ap (λ l. l ++ changes_text back) (front_told ∙ ap (λ l. was ++ changes_text (runs (4096 * first) 0 l (frame_bytes m first))) first_as)
    ∙ append_assoc was (changes_text front) (changes_text back)
    ∙ ap (λ l. was ++ l) (sym (text_behind front back)) ∙ ap (λ r. was ++ changes_text r) (sym changes)

-- the changes of frames, and of those behind them
changes_joined : (j k f g : ℕ) (c m : List ℕ) → g ≡ f + j → memory_changes (j + k) f c m ≡ memory_changes j f c m ++ memory_changes k g c m
changes_joined zero k f g c m at =
    let none_more : 0 + k ≡ k = omega arith in
    let same : f ≡ g = omega (arith, at) in
    ap (λ x. memory_changes x f c m) none_more ∙ ap (λ h. memory_changes k h c m) same
changes_joined (suc j) k f g c m at =
    let one_more : suc j + k ≡ suc (j + k) = omega arith in
    ap (λ x. memory_changes x f c m) one_more
    ∙ (ap (λ l. runs (4096 * f) 0 (frame_bytes c f) (frame_bytes m f) ++ l) (changes_joined j k (suc f) g c m (omega (arith, at)))
    ∙ sym (append_assoc (runs (4096 * f) 0 (frame_bytes c f) (frame_bytes m f)) (memory_changes j (suc f) c m) (memory_changes k g c m)))

changes_split : (k f n : ℕ) (c m : List ℕ) → k ≡ min f n → memory_changes n 0 c m ≡ memory_changes k 0 c m ++ memory_changes (n - f) f c m
changes_split k f n c m least =
    elim (cases_lt f n) [
      | inl low ↦
          let parts : n ≡ k + (n - f) = omega (arith, low, least) in
          ap (λ x. memory_changes x 0 c m) parts ∙ changes_joined k (n - f) 0 f c m (omega (arith, low, least))
      | inr high ↦
          let all : n ≡ k = omega (arith, high, least) in
          let none : 0 ≡ n - f = omega (arith, high) in
          sym (append-nil (memory_changes n 0 c m)) ∙ ap (λ x. memory_changes x 0 c m ++ []) all
          ∙ ap (λ x. memory_changes k 0 c m ++ memory_changes x f c m) none
    ]

-- those of memories that have the same frames
changes_agree : (n f : ℕ) (c b m : List ℕ) → ((g : ℕ) → f ≤ g → g < f + n → frame_bytes c g ≡ frame_bytes b g) → memory_changes n f c m ≡ memory_changes n f b m
changes_agree zero f c b m same = refl
changes_agree (suc n) f c b m same =
    ap (λ l. runs (4096 * f) 0 l (frame_bytes m f) ++ memory_changes n (suc f) c m) (same f (omega arith) (omega arith))
    ∙ ap (λ l. runs (4096 * f) 0 (frame_bytes b f) (frame_bytes m f) ++ l) (changes_agree n (suc f) c b m (λ g low high. same g (omega (arith, low)) (omega (arith, high))))

-- the frames below a number were put, and then those two
pub body_told : (was mid now c d b m : List ℕ) (k f one two : ℕ) → k ≡ min f (length m / 4096) → length c ≡ length m
    → IsCopyFor (Body f one two) c b m
    → ((p : ℕ) → k ≤ p / 4096 → byte_at d p ≡ byte_at c p)
    → mid ≡ was ++ changes_text (memory_changes k 0 c m)
    → (HasTwo f one two d b → now ≡ mid ++ changes_text (memory_changes (length m / 4096 - f) f b m))
    → now ≡ was ++ changes_text (memory_changes (length m / 4096) 0 b m)
body_told was mid now c d b m k f one two least size it left front_told back_told =
    let n : ℕ = length m / 4096 in
    let front : List Change = memory_changes k 0 b m in
    let back : List Change = memory_changes (n - f) f b m in
    let as_before : memory_changes k 0 c m ≡ front =
    changes_agree k 0 c b m (λ g _ high. frame_agrees c b g (size ∙ sym it.size) (λ p here. it.agrees p (inl (omega (arith, here, high, least))))) in
    let has : HasTwo f one two d b = λ p low touched. left p (omega (arith, low, least)) ∙ it.agrees p (inr touched) in
    back_told has ∙ ap (λ l. l ++ changes_text back) (front_told ∙ ap (λ r. was ++ changes_text r) as_before)
    ∙ append_assoc was (changes_text front) (changes_text back)
    ∙ ap (λ l. was ++ l) (sym (text_behind front back)) ∙ ap (λ r. was ++ changes_text r) (sym (changes_split k f n b m least))

pub body_copied : (c d e m : List ℕ) (n k f one two : ℕ) → 4096 * n ≡ length m → k ≡ min f (length m / 4096) → length d ≡ length m → length e ≡ length m
    → KeepsOutside (Body f one two) c m
    → ((p : ℕ) → p / 4096 < k → byte_at d p ≡ byte_at m p) → ((p : ℕ) → k ≤ p / 4096 → byte_at d p ≡ byte_at c p)
    → (KeepsOutside (Body f one two) d m → (p : ℕ) → f ≤ p / 4096 → byte_at e p ≡ byte_at m p)
    → ((p : ℕ) → p / 4096 < f → byte_at e p ≡ byte_at d p) → e ≡ m
body_copied c d e m n k f one two whole least dsize size keeps copied left back below =
    let keeps_still : KeepsOutside (Body f one two) d m = λ p out. keeps p out ∙ sym (left p (omega (arith, out.0, least))) in
    same_memory e m size
    (λ p. elim (cases_lt (p / 4096) f) [
      | inl low ↦ below p low
          ∙ elim (cases_lt (p / 4096) k) [
            | inl inside ↦ copied p inside
            | inr past ↦ get_or_past d p 0 (omega (arith, low, past, least, dsize, whole)) ∙ sym (get_or_past m p 0 (omega (arith, low, past, least, whole)))
          ]
      | inr high ↦ back keeps_still p high
    ])

-- those two were put where no other changed at all
pub frames_told : (was now c b m : List ℕ) (one two : ℕ) → IsCopyFor (Frames one two) c b m
    → (length b ≡ length m → KeepsOutside (Body 0 one two) b m → HasTwo 0 one two c b
    → now ≡ was ++ changes_text (memory_changes (length m / 4096 - 0) 0 b m))
    → now ≡ was ++ changes_text (memory_changes (length m / 4096) 0 b m)
frames_told was now c b m one two it told =
    told it.size (λ p out. it.outside p (out.1)) (λ p _ here. it.agrees p here)
    ∙ ap (λ k. was ++ changes_text (memory_changes k 0 b m)) (omega arith)

pub frames_copied : (c d m : List ℕ) (one two : ℕ) → length d ≡ length m → KeepsOutside (Frames one two) c m
    → (KeepsOutside (Body 0 one two) c m → (p : ℕ) → 0 ≤ p / 4096 → byte_at d p ≡ byte_at m p) → d ≡ m
frames_copied c d m one two size keeps copied =
    same_memory d m size (λ p. copied (λ q out. keeps q (out.1)) p (omega arith))

-- all were put
pub all_told : (was now c b m : List ℕ) → length c ≡ length m → IsCopyFor Any c b m
    → now ≡ was ++ changes_text (memory_changes (length m / 4096) 0 c m)
    → now ≡ was ++ changes_text (memory_changes (length m / 4096) 0 b m)
all_told was now c b m size it told =
    told ∙ ap (λ l. was ++ changes_text (memory_changes (length m / 4096) 0 l m))
    (same_memory c b (size ∙ sym it.size) (λ p. it.agrees p tt))
