-- The changes of memory, frame by frame, and those where few frames changed.
use Rattle.std.proofs.Common.{◌≡◌, ◌≢◌, inl, inr, ℕ, zero, suc, ◌+◌, ◌-◌, ◌*◌, ◌/◌, ◌<◌, ◌≤◌, List, [], ◌∷◌, ◌++◌, length, arith, refl, sym, ap, ◌∙◌, append_assoc}
use Rattle.std.proofs.lemmas.Bool.{cases_lt, cases_eq}
use Rattle.std.proofs.lemmas.List.{append-nil, ext_get_or, get_or_past}
use Rattle.phys_mem.specs.Memory.{byte_at, frame_bytes}
use Rattle.step_trace.specs.StepChanges.{Change, memory_changes, runs}
use Rattle.step_trace.specs.StepTexts.{change_text, changes_text}
use Rattle.step_trace.proofs.ChangedRuns.{runs_same}
use Rattle.step_trace.proofs.SameFrames.{frame_is_same}

-- memories that have the same bytes
pub same_memory : (c m : List ℕ) → length c ≡ length m → ((p : ℕ) → byte_at c p ≡ byte_at m p) → c ≡ m
same_memory c m size same = ext_get_or 0 c m size (λ k _. same k)

-- a frame whose bytes are the same
pub frame_agrees : (c m : List ℕ) (f : ℕ) → length c ≡ length m → ((p : ℕ) → p / 4096 ≡ f → byte_at c p ≡ byte_at m p) → frame_bytes c f ≡ frame_bytes m f
frame_agrees c m f size same = frame_is_same c m f size (λ k small. same (4096 * f + k) (omega arith))

-- a frame behind both
pub frame_past : (c m : List ℕ) (f : ℕ) → length c ≡ length m → length m ≤ 4096 * f → frame_bytes c f ≡ frame_bytes m f
frame_past c m f size past =
    frame_agrees c m f size (λ p here. get_or_past c p 0 (omega arith) ∙ sym (get_or_past m p 0 (omega arith)))

-- a frame that is the same has no run
pub frame_stays : (c m : List ℕ) (f : ℕ) → frame_bytes c f ≡ frame_bytes m f → runs (4096 * f) 0 (frame_bytes c f) (frame_bytes m f) ≡ []
frame_stays c m f same = ap (λ l. runs (4096 * f) 0 l (frame_bytes m f)) same ∙ runs_same (4096 * f) (frame_bytes m f)

-- no frame changed
pub none_changed : (n f : ℕ) (c m : List ℕ) → ((g : ℕ) → f ≤ g → frame_bytes c g ≡ frame_bytes m g) → memory_changes n f c m ≡ []
none_changed zero f c m same = refl
none_changed (suc n) f c m same =
    ap (λ l. l ++ memory_changes n (suc f) c m) (frame_stays c m f (same f (omega arith)))
    ∙ none_changed n (suc f) c m (λ g behind. same g (omega arith))

-- one may have
pub one_changed : (n f a : ℕ) (c m : List ℕ) → f ≤ a → ((g : ℕ) → f ≤ g → g ≢ a → frame_bytes c g ≡ frame_bytes m g)
    → ((g : ℕ) → f + n ≤ g → frame_bytes c g ≡ frame_bytes m g)
    → memory_changes n f c m ≡ runs (4096 * a) 0 (frame_bytes c a) (frame_bytes m a)
one_changed zero f a c m low same past = sym (frame_stays c m a (past a (omega arith)))
one_changed (suc n) f a c m low same past =
    elim (cases_eq f a) [
      | inl is ↦
          ap (λ l. runs (4096 * f) 0 (frame_bytes c f) (frame_bytes m f) ++ l) (none_changed n (suc f) c m (λ g behind. same g (omega arith) (omega arith)))
          ∙ append-nil (runs (4096 * f) 0 (frame_bytes c f) (frame_bytes m f))
          ∙ ap (λ g. runs (4096 * g) 0 (frame_bytes c g) (frame_bytes m g)) is
      | inr other ↦
          ap (λ l. l ++ memory_changes n (suc f) c m) (frame_stays c m f (same f (omega arith) other))
          ∙ one_changed n (suc f) a c m (omega arith) (λ g behind apart. same g (omega arith) apart) (λ g behind. past g (omega arith))
    ]

-- two may have, one behind the other
pub two_changed : (n f a b : ℕ) (c m : List ℕ) → f ≤ a → a < b → ((g : ℕ) → f ≤ g → g ≢ a → g ≢ b → frame_bytes c g ≡ frame_bytes m g)
    → ((g : ℕ) → f + n ≤ g → frame_bytes c g ≡ frame_bytes m g)
    → memory_changes n f c m ≡ runs (4096 * a) 0 (frame_bytes c a) (frame_bytes m a) ++ runs (4096 * b) 0 (frame_bytes c b) (frame_bytes m b)
two_changed zero f a b c m low order same past =
    sym (ap (λ l. l ++ runs (4096 * b) 0 (frame_bytes c b) (frame_bytes m b)) (frame_stays c m a (past a (omega arith))) ∙ frame_stays c m b (past b (omega arith)))
two_changed (suc n) f a b c m low order same past =
    elim (cases_eq f a) [
      | inl is ↦
          ap (λ l. runs (4096 * f) 0 (frame_bytes c f) (frame_bytes m f) ++ l)
          (one_changed n (suc f) b c m (omega arith) (λ g behind apart. same g (omega arith) (omega arith) apart) (λ g behind. past g (omega arith)))
          ∙ ap (λ g. runs (4096 * g) 0 (frame_bytes c g) (frame_bytes m g) ++ runs (4096 * b) 0 (frame_bytes c b) (frame_bytes m b)) is
      | inr other ↦
          ap (λ l. l ++ memory_changes n (suc f) c m) (frame_stays c m f (same f (omega arith) other (omega arith)))
          ∙ two_changed n (suc f) a b c m (omega arith) order (λ g behind apart away. same g (omega arith) apart away) (λ g behind. past g (omega arith))
    ]

-- the text of changes behind others
pub text_behind : (front back : List Change) → changes_text (front ++ back) ≡ changes_text front ++ changes_text back
text_behind [] back = refl
text_behind (change ∷ front) back =
    ap (λ l. change_text change ++ l) (text_behind front back) ∙ sym (append_assoc (change_text change) (changes_text front) (changes_text back))

-- a line on which a frame without a run was put
pub frame_untold : (was c m : List ℕ) (f : ℕ) → frame_bytes c f ≡ frame_bytes m f → was ≡ was ++ changes_text (runs (4096 * f) 0 (frame_bytes c f) (frame_bytes m f))
frame_untold was c m f same = sym (ap (λ r. was ++ changes_text r) (frame_stays c m f same) ∙ append-nil was)

-- a line on which no change was put, where no byte changed
pub none_told : (was c m : List ℕ) (n : ℕ) → length c ≡ length m → ((p : ℕ) → byte_at c p ≡ byte_at m p) → was ≡ was ++ changes_text (memory_changes n 0 c m)
none_told was c m n size same =
    sym (ap (λ r. was ++ changes_text r) (none_changed n 0 c m (λ g _. frame_agrees c m g size (λ p _. same p))) ∙ append-nil was)

-- a frame more was put, of all
pub frame_told : (n f : ℕ) (start was now c d m : List ℕ) → f < n → length c ≡ length m → length d ≡ length m
    → ((p : ℕ) → f ≤ p / 4096 → byte_at d p ≡ byte_at c p)
    → was ++ changes_text (memory_changes (n - f) f c m) ≡ start
    → now ≡ was ++ changes_text (runs (4096 * f) 0 (frame_bytes d f) (frame_bytes m f))
    → now ++ changes_text (memory_changes (n - (f + 1)) (f + 1) c m) ≡ start
frame_told n f start was now c d m inside size dsize left so_far told =
    let front : List Change = runs (4096 * f) 0 (frame_bytes c f) (frame_bytes m f) in
    let back : List Change = memory_changes (n - (f + 1)) (f + 1) c m in
    let as_before : frame_bytes d f ≡ frame_bytes c f = frame_agrees d c f (dsize ∙ sym size) (λ p here. left p (omega arith)) in
    let one_more : n - f ≡ suc (n - (f + 1)) = omega arith in
    let next : suc f ≡ f + 1 = omega arith in
    let changes : memory_changes (n - f) f c m ≡ front ++ back =
    ap (λ k. memory_changes k f c m) one_more ∙ ap (λ g. front ++ memory_changes (n - (f + 1)) g c m) next in
    ap (λ l. l ++ changes_text back) (told ∙ ap (λ l. was ++ changes_text (runs (4096 * f) 0 l (frame_bytes m f))) as_before)
    ∙ append_assoc was (changes_text front) (changes_text back)
    ∙ ap (λ l. was ++ l) (sym (text_behind front back)) ∙ ap (λ r. was ++ changes_text r) (sym changes) ∙ so_far

-- and is copied, and those behind it are as they were
pub frame_copied : (f : ℕ) (d e m : List ℕ) → ((p : ℕ) → p / 4096 < f → byte_at d p ≡ byte_at m p)
    → ((p : ℕ) → p / 4096 ≡ f → byte_at e p ≡ byte_at m p) → ((p : ℕ) → p / 4096 ≢ f → byte_at e p ≡ byte_at d p)
    → (p : ℕ) → p / 4096 < f + 1 → byte_at e p ≡ byte_at m p
frame_copied f d e m below copied others p inside =
    elim (cases_eq (p / 4096) f) [ inl here ↦ copied p here | inr there ↦ others p there ∙ below p (omega (arith, there)) ]

pub frame_left : (f : ℕ) (c d e : List ℕ) → ((p : ℕ) → f ≤ p / 4096 → byte_at d p ≡ byte_at c p)
    → ((p : ℕ) → p / 4096 ≢ f → byte_at e p ≡ byte_at d p) → (p : ℕ) → f + 1 ≤ p / 4096 → byte_at e p ≡ byte_at c p
frame_left f c d e left others p past = others p (omega (arith, past)) ∙ left p (omega (arith, past))

-- all frames were copied
pub all_copied : (n f : ℕ) (d m : List ℕ) → 4096 * n ≡ length m → n ≤ f → length d ≡ length m
    → ((p : ℕ) → p / 4096 < f → byte_at d p ≡ byte_at m p) → d ≡ m
all_copied n f d m whole all size copied =
    same_memory d m size
    (λ p. elim (cases_lt (p / 4096) f) [ inl inside ↦ copied p inside | inr past ↦ get_or_past d p 0 (omega arith) ∙ sym (get_or_past m p 0 (omega arith)) ])
