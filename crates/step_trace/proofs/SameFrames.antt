-- Frames of two memories byte by byte, and a frame that is put into one of them.
use Rattle.std.proofs.Common.{◌≡◌, ◌≢◌, inl, inr, ℕ, zero, suc, ◌+◌, ◌-◌, ◌*◌, ◌/◌, ◌<◌, ◌≤◌, min, List, ◌++◌, length, take, drop, arith, sym, ap, ◌∙◌}
use Rattle.std.proofs.lemmas.Grind.{common_steps}
use Rattle.std.proofs.lemmas.Bool.{cases_lt}
use Rattle.std.proofs.lemmas.List.{places, ext_get_or, get_or-take, get_or-drop, length-append, length-take, length-drop}
use Rattle.std.proofs.Math.Seq.{take-length}
use Rattle.phys_mem.specs.Memory.{IsBytes, byte_at, frame_bytes, number_at}
use Rattle.phys_mem.specs.Runs.{with_run}

-- so many bytes from a place on are the same
abbrev pub AreSame : List ℕ → List ℕ → ℕ → ℕ → Type 0
AreSame c m p n = (k : ℕ) → k < n → byte_at c (p + k) ≡ byte_at m (p + k)

-- those of a number
pub number_same : (n p : ℕ) (c m : List ℕ) → IsBytes c → IsBytes m → number_at c n p ≡ number_at m n p → AreSame c m p n
unfolding number_at
number_same zero p c m cs ms same k small = absurd (omega arith)
number_same (suc n) p c m cs ms same zero small =
    let here : byte_at c p ≡ byte_at m p = omega (arith, same, cs p, ms p) in
    ap (byte_at c) (omega arith) ∙ here ∙ ap (byte_at m) (omega arith)
number_same (suc n) p c m cs ms same (suc k) small =
    let rest : number_at c n (p + 1) ≡ number_at m n (p + 1) = omega (arith, same, cs p, ms p) in
    ap (byte_at c) (omega arith) ∙ number_same n (p + 1) c m cs ms rest k (omega arith) ∙ ap (byte_at m) (omega arith)

-- one run of them behind the other
pub same_joined : (p n k : ℕ) (c m : List ℕ) → AreSame c m p n → AreSame c m (p + n) k → AreSame c m p (n + k)
same_joined p n k c m front back j small =
    elim (cases_lt j n) [
      | inl below ↦ front j below
      | inr above ↦ ap (byte_at c) (omega arith) ∙ back (j - n) (omega arith) ∙ ap (byte_at m) (omega arith)
    ]

-- the bytes of a frame
pub byte_of_frame : (m : List ℕ) (f k : ℕ) → k < 4096 → byte_at (frame_bytes m f) k ≡ byte_at m (4096 * f + k)
unfolding frame_bytes
byte_of_frame m f k small = get_or-take 4096 (drop (4096 * f) m) k 0 small ∙ get_or-drop (4096 * f) m k 0

pub frame_is_same : (c m : List ℕ) (f : ℕ) → length c ≡ length m → AreSame c m (4096 * f) 4096 → frame_bytes c f ≡ frame_bytes m f
unfolding frame_bytes
frame_is_same c m f size same =
    let p : ℕ = 4096 * f in
    ext_get_or 0 (take 4096 (drop p c)) (take 4096 (drop p m))
    (length-take 4096 (drop p c) ∙ ap (λ x. min 4096 x) (length-drop p c ∙ ap (λ x. x - p) size ∙ sym (length-drop p m)) ∙ sym (length-take 4096 (drop p m)))
    (λ k h. let small : k < 4096 = omega (arith, h, length-take 4096 (drop p c)) in byte_of_frame c f k small ∙ same k small ∙ sym (byte_of_frame m f k small))

pub byte_same : (c m : List ℕ) (f p : ℕ) → frame_bytes c f ≡ frame_bytes m f → p / 4096 ≡ f → byte_at c p ≡ byte_at m p
byte_same c m f p same here =
    let k : ℕ = p - 4096 * f in
    let place : p ≡ 4096 * f + k = omega arith in
    let small : k < 4096 = omega arith in
    ap (byte_at c) place ∙ sym (byte_of_frame c f k small) ∙ ap (λ l. byte_at l k) same ∙ byte_of_frame m f k small ∙ ap (byte_at m) (sym place)

-- a run that is put in, without a cut
run_put : (m : List ℕ) (p : ℕ) (bs : List ℕ) → p + length bs ≤ length m → with_run m p bs ≡ take p m ++ bs ++ drop (p + length bs) m
run_put m p bs fits =
    let size : length (take p m ++ bs ++ drop (p + length bs) m) ≡ length m = simp (length-append, length-take, length-drop) (omega arith) in
    ap (λ n. take n (take p m ++ bs ++ drop (p + length bs) m)) (sym size) ∙ take-length (take p m ++ bs ++ drop (p + length bs) m)

in_run : (m : List ℕ) (p : ℕ) (bs : List ℕ) (k : ℕ) → p + length bs ≤ length m → k < length bs → byte_at (take p m ++ bs ++ drop (p + length bs) m) (p + k) ≡ byte_at bs k
in_run m p bs k fits h = grind (arith, common_steps)

below_run : (m : List ℕ) (p : ℕ) (bs : List ℕ) (q : ℕ) → p + length bs ≤ length m → q < p → byte_at (take p m ++ bs ++ drop (p + length bs) m) q ≡ byte_at m q
below_run m p bs q fits h = grind (arith, common_steps)

above_run : (m : List ℕ) (p : ℕ) (bs : List ℕ) (q : ℕ) → p + length bs ≤ length m → p + length bs ≤ q → byte_at (take p m ++ bs ++ drop (p + length bs) m) q ≡ byte_at m q
above_run m p bs q fits h = grind (arith, places)

-- a frame of one memory that is put into the other
pub frame_put : (c m bs : List ℕ) (f p : ℕ) → length c ≡ length m → 4096 * f + 4096 ≤ length m → bs ≡ frame_bytes m f → length bs ≡ 4096
    → p / 4096 ≡ f → byte_at (with_run c (4096 * f) bs) p ≡ byte_at m p
frame_put c m bs f p size fits is long here =
    let k : ℕ = p - 4096 * f in
    let place : p ≡ 4096 * f + k = omega arith in
    let small : k < 4096 = omega arith in
    ap (λ l. byte_at l p) (run_put c (4096 * f) bs (omega arith))
    ∙ ap (byte_at (take (4096 * f) c ++ bs ++ drop (4096 * f + length bs) c)) place
    ∙ in_run c (4096 * f) bs k (omega arith) (omega arith)
    ∙ ap (λ l. byte_at l k) is ∙ byte_of_frame m f k small ∙ ap (byte_at m) (sym place)

pub frame_put_elsewhere : (c bs : List ℕ) (f p : ℕ) → 4096 * f + 4096 ≤ length c → length bs ≡ 4096
    → p / 4096 ≢ f → byte_at (with_run c (4096 * f) bs) p ≡ byte_at c p
frame_put_elsewhere c bs f p fits long there =
    ap (λ l. byte_at l p) (run_put c (4096 * f) bs (omega arith))
    ∙ elim (cases_lt p (4096 * f)) [
      | inl below ↦ below_run c (4096 * f) bs p (omega arith) below
      | inr above ↦ elim (cases_lt p (4096 * f + 4096)) [
        | inl inside ↦ absurd (there (omega (arith, above, inside)))
        | inr past ↦ above_run c (4096 * f) bs p (omega arith) (omega arith)
      ]
    ]

-- 64 bytes more, in two halves
pub same_more : (i p start : ℕ) (c m : List ℕ) → start ≡ p → AreSame c m p (64 * i) → AreSame c m (start + 64 * i) 32 → AreSame c m (start + 64 * i + 32) 32
    → AreSame c m p (64 * (i + 1))
same_more i p start c m begins below front back k small =
    elim (cases_lt k (64 * i)) [
      | inl inside ↦ below k inside
      | inr above ↦
          ap (byte_at c) (omega arith) ∙ same_joined (start + 64 * i) 32 32 c m front back (k - 64 * i) (omega arith) ∙ ap (byte_at m) (omega arith)
    ]
