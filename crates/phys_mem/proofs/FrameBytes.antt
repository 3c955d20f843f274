-- The bytes of frames, after stores and after a frame is zeroed.
use Rattle.std.proofs.Common.{◌≡◌, ◌≢◌, ◌⊎◌, ℕ, zero, suc, ◌+◌, ◌-◌, ◌*◌, ◌/◌, ◌<◌, ◌≤◌, min, List, length, take, drop, replicate, All, arith, rules, refl, sym, ap, ◌∙◌, inl, inr}
use Rattle.std.proofs.lemmas.List.{places, length-replicate, get_or-replicate, get_or-take, get_or-drop, ext_get_or, length-take, length-drop}
use Rattle.std.proofs.lemmas.List.Elements.{All-weaker}
use Rattle.std.proofs.lemmas.Bool.{cases_lt}
use Rattle.phys_mem.specs.Memory.{byte_at, number_at, entry_in, stored, patched, frame_zeroed, frame_bytes}
use Rattle.phys_mem.proofs.MemoryLaws.{length-stored, byte_elsewhere, number_same, patched_below, patched_in, patched_above, length-patched}

-- a number whose bytes are 0
pub number_zero : (m : List ℕ) (n p : ℕ) → ((q : ℕ) → p ≤ q → q < p + n → byte_at m q ≡ 0) → number_at m n p ≡ 0
unfolding number_at
number_zero m zero p clear = refl
number_zero m (suc n) p clear = omega (arith, clear p (omega arith) (omega arith), number_zero m n (p + 1) (λ q a b. clear q (omega arith) (omega arith)))

-- a patch of zeros, by its length
zeros_in : (m : List ℕ) (p n q : ℕ) → p + n ≤ length m → p ≤ q → q < p + n → byte_at (patched m p (replicate n 0)) q ≡ 0
zeros_in m p n q fits low high =
    let place : q ≡ p + (q - p) = omega arith in
    ap (byte_at (patched m p (replicate n 0))) place ∙ patched_in m p (replicate n 0) (q - p) (omega (arith, length-replicate {A = ℕ} n 0)) (omega (arith, length-replicate {A = ℕ} n 0)) ∙ get_or-replicate n (q - p) 0 0 (omega arith)

zeros_elsewhere : (m : List ℕ) (p n q : ℕ) → p + n ≤ length m → (q < p) ⊎ (p + n ≤ q) → byte_at (patched m p (replicate n 0)) q ≡ byte_at m q
zeros_elsewhere m p n q fits (inl below) = patched_below m p (replicate n 0) q (omega (arith, length-replicate {A = ℕ} n 0)) below
zeros_elsewhere m p n q fits (inr above) = patched_above m p (replicate n 0) q (omega (arith, length-replicate {A = ℕ} n 0)) (omega (arith, length-replicate {A = ℕ} n 0))

-- a run of a list, by index
run_length : (m : List ℕ) (p n : ℕ) → p + n ≤ length m → length (take n (drop p m)) ≡ n
run_length m p n fits = search (rules, places)

run_byte : (m : List ℕ) (p n k : ℕ) → k < n → byte_at (take n (drop p m)) k ≡ byte_at m (p + k)
run_byte m p n k small = get_or-take n (drop p m) k 0 small ∙ get_or-drop p m k 0

run_same : (l m : List ℕ) (p n : ℕ) → length l ≡ length m → ((q : ℕ) → p ≤ q → q < p + n → byte_at l q ≡ byte_at m q) → take n (drop p l) ≡ take n (drop p m)
run_same l m p n size agree =
    ext_get_or 0 (take n (drop p l)) (take n (drop p m)) (length-take n (drop p l) ∙ ap (λ x. min n x) (length-drop p l ∙ ap (λ x. x - p) size ∙ sym (length-drop p m)) ∙ sym (length-take n (drop p m)))
    (λ k h. let small : k < n = omega (arith, h, length-take n (drop p l)) in run_byte l p n k small ∙ agree (p + k) (omega arith) (omega arith) ∙ sym (run_byte m p n k small))

-- a frame zeroed, in memory of any length that holds it
pub length-frame_zeroed : (m : List ℕ) (f : ℕ) → 4096 * f + 4096 ≤ length m → length (frame_zeroed m f) ≡ length m
unfolding frame_zeroed
length-frame_zeroed m f fits = length-patched m (4096 * f) (replicate 4096 0) (omega (arith, length-replicate {A = ℕ} 4096 0))

pub zeroed_byte : (m : List ℕ) (f q : ℕ) → 4096 * f + 4096 ≤ length m → q / 4096 ≡ f → byte_at (frame_zeroed m f) q ≡ 0
unfolding frame_zeroed
zeroed_byte m f q fits here = zeros_in m (4096 * f) 4096 q fits (omega arith) (omega arith)

pub zeroed_byte_elsewhere : (m : List ℕ) (f q : ℕ) → 4096 * f + 4096 ≤ length m → q / 4096 ≢ f → byte_at (frame_zeroed m f) q ≡ byte_at m q
unfolding frame_zeroed
zeroed_byte_elsewhere m f q fits there = zeros_elsewhere m (4096 * f) 4096 q fits (elim (cases_lt q (4096 * f)) [ inl below ↦ inl below | inr above ↦ inr (elim (cases_lt q (4096 * f + 4096)) [ inl inside ↦ absurd (there (omega (arith, above, inside))) | inr past ↦ past ]) ])

-- an entry of a zeroed frame is 0, and every other stays
pub entry_zeroed : (m : List ℕ) (a i : ℕ) → 4096 * a + 4096 ≤ length m → i < 512 → entry_in (frame_zeroed m a) a i ≡ 0
unfolding entry_in
entry_zeroed m a i fits small = number_zero (frame_zeroed m a) 8 (4096 * a + 8 * i) (λ q low high. zeroed_byte m a q fits (omega (arith, low, high, small)))

pub entry_zeroed_elsewhere : (m : List ℕ) (a f i : ℕ) → 4096 * a + 4096 ≤ length m → i < 512 → f ≢ a → entry_in (frame_zeroed m a) f i ≡ entry_in m f i
unfolding entry_in
entry_zeroed_elsewhere m a f i fits small other =
    number_same (frame_zeroed m a) m 8 (4096 * f + 8 * i) (λ q low high. zeroed_byte_elsewhere m a q fits (λ e. other (omega (arith, e, low, high, small))))

-- the bytes of a frame, by index
pub length-frame_bytes : (m : List ℕ) (f : ℕ) → 4096 * f + 4096 ≤ length m → length (frame_bytes m f) ≡ 4096
unfolding frame_bytes
length-frame_bytes m f fits = run_length m (4096 * f) 4096 fits

pub byte_of_frame : (m : List ℕ) (f k : ℕ) → k < 4096 → byte_at (frame_bytes m f) k ≡ byte_at m (4096 * f + k)
unfolding frame_bytes
byte_of_frame m f k small = run_byte m (4096 * f) 4096 k small

-- memories that agree in a frame's bytes hold the same frame
pub frame_same : (l m : List ℕ) (f : ℕ) → length l ≡ length m → ((q : ℕ) → q / 4096 ≡ f → byte_at l q ≡ byte_at m q) → frame_bytes l f ≡ frame_bytes m f
unfolding frame_bytes
frame_same l m f size agree = run_same l m (4096 * f) 4096 size (λ q low high. agree q (omega (arith, low, high)))

-- a frame stays where no store is in it
pub frame_elsewhere : (m : List ℕ) (ws : List (ℕ × ℕ)) (f : ℕ) → All (λ w. w.0 / 4096 ≢ f) ws → frame_bytes (stored m ws) f ≡ frame_bytes m f
frame_elsewhere m ws f apart =
    frame_same (stored m ws) m f (length-stored m ws)
    (λ q here. byte_elsewhere m ws q (All-weaker (λ w. w.0 / 4096 ≢ f) (λ w. w.0 ≢ q) (λ w s e. s (ap (λ x. x / 4096) e ∙ here)) ws apart))

-- every other frame stays where one is zeroed
pub frame_zeroed_elsewhere : (m : List ℕ) (a f : ℕ) → 4096 * a + 4096 ≤ length m → f ≢ a → frame_bytes (frame_zeroed m a) f ≡ frame_bytes m f
frame_zeroed_elsewhere m a f fits other =
    frame_same (frame_zeroed m a) m f (length-frame_zeroed m a fits) (λ q here. zeroed_byte_elsewhere m a q fits (λ e. other (sym here ∙ e)))
