-- Numbers and runs of bytes in memories that agree, and bytes that are stored one by one.
use Rattle.std.proofs.Common.{◌≡◌, ◌≢◌, ℕ, zero, suc, ◌+◌, ◌-◌, ◌%◌, ◌<◌, ◌≤◌, min, List, [], ◌∷◌, length, take, drop, set, All, arith, refl, sym, ap, ◌∙◌}
use Rattle.std.proofs.lemmas.List.{drop_all, drop_more, ext_get_or, get_or-take, get_or-drop, get_or-set_same, length-take, length-take-le, length-drop, length-set}
use Rattle.std.proofs.lemmas.List.Elements.{All-cons, All-nil, All-weaker}
use Rattle.phys_mem.specs.Memory.{byte_at, number_at, stored, stores}
use Rattle.write_log.specs.RecordStores.{byte_stores}

-- memories whose bytes agree at n places spell one number there
pub number_same : (l m : List ℕ) (n p : ℕ) → ((q : ℕ) → p ≤ q → q < p + n → byte_at l q ≡ byte_at m q)
    → number_at l n p ≡ number_at m n p
unfolding number_at
number_same l m zero p agree = refl
number_same l m (suc n) p agree =
    let first : byte_at l p ≡ byte_at m p = agree p (omega arith) (omega arith) in
    let rest : number_at l n (p + 1) ≡ number_at m n (p + 1) =
    number_same l m n (p + 1) (λ q low high. agree q (omega (arith, low)) (omega (arith, high))) in
    omega (arith, first, rest)

-- a run of bytes, by index
pub run_byte : (m : List ℕ) (p n k : ℕ) → k < n → byte_at (take n (drop p m)) k ≡ byte_at m (p + k)
run_byte m p n k small = get_or-take n (drop p m) k 0 small ∙ get_or-drop p m k 0

pub run_length : (m : List ℕ) (p n : ℕ) → p + n ≤ length m → length (take n (drop p m)) ≡ n
run_length m p n fits = length-take-le n (drop p m) (omega (arith, fits, length-drop p m))

pub run_same : (l m : List ℕ) (p n : ℕ) → length l ≡ length m → ((q : ℕ) → p ≤ q → q < p + n → byte_at l q ≡ byte_at m q)
    → take n (drop p l) ≡ take n (drop p m)
run_same l m p n size agree =
    ext_get_or 0 (take n (drop p l)) (take n (drop p m))
    (length-take n (drop p l) ∙ ap (λ x. min n x) (length-drop p l ∙ ap (λ x. x - p) size ∙ sym (length-drop p m)) ∙ sym (length-take n (drop p m)))
    (λ k h.
    let small : k < n = omega (arith, h, length-take n (drop p l)) in
    run_byte l p n k small ∙ agree (p + k) (omega arith) (omega (arith, small)) ∙ sym (run_byte m p n k small))

-- a run that has these bytes
pub run_is : (m : List ℕ) (p : ℕ) (bs : List ℕ) → p + length bs ≤ length m → ((k : ℕ) → k < length bs → byte_at m (p + k) ≡ byte_at bs k)
    → take (length bs) (drop p m) ≡ bs
run_is m p bs fits same =
    ext_get_or 0 (take (length bs) (drop p m)) bs (run_length m p (length bs) fits)
    (λ k h.
    let small : k < length bs = omega (arith, h, run_length m p (length bs) fits) in
    run_byte m p (length bs) k small ∙ same k small)

-- where bytes are stored one by one
pub byte_places : (p : ℕ) (bs : List ℕ) → All (λ w. (p ≤ w.0) × (w.0 < p + length bs)) (byte_stores p bs)
unfolding byte_stores
byte_places p [] = All-nil (λ w. (p ≤ w.0) × (w.0 < p + length {A = ℕ} []))
byte_places p (b ∷ bs) =
    All-cons (λ w. (p ≤ w.0) × (w.0 < p + length (b ∷ bs))) (p, b) (byte_stores (p + 1) bs) (omega arith, omega arith)
    (All-weaker (λ w. (p + 1 ≤ w.0) × (w.0 < p + 1 + length bs)) (λ w. (p ≤ w.0) × (w.0 < p + length (b ∷ bs)))
    (λ w h. (omega (arith, h.0), omega (arith, h.1))) (byte_stores (p + 1) bs) (byte_places (p + 1) bs))

-- each of them stands there then
pub byte_stored : ((m : List ℕ) (ws : List (ℕ × ℕ)) (p : ℕ) → All (λ w. w.0 ≢ p) ws → byte_at (stored m ws) p ≡ byte_at m p)
    → (m : List ℕ) (p : ℕ) (bs : List ℕ) (k : ℕ) → p + length bs ≤ length m → k < length bs
    → byte_at (stored m (byte_stores p bs)) (p + k) ≡ byte_at bs k
unfolding byte_stores stored
byte_stored elsewhere m p [] k fits small = absurd (omega (arith, small))
byte_stored elsewhere m p (b ∷ bs) zero fits small =
    let place : p + 0 ≡ p = omega arith in
    ap (byte_at (stored (set m p b) (byte_stores (p + 1) bs))) place
    ∙ elsewhere (set m p b) (byte_stores (p + 1) bs) p
    (All-weaker (λ w. (p + 1 ≤ w.0) × (w.0 < p + 1 + length bs)) (λ w. w.0 ≢ p) (λ w h e. omega (arith, h.0, e)) (byte_stores (p + 1) bs) (byte_places (p + 1) bs))
    ∙ get_or-set_same m p b 0 (omega (arith, fits))
byte_stored elsewhere m p (b ∷ bs) (suc k) fits small =
    let place : p + suc k ≡ p + 1 + k = omega arith in
    ap (byte_at (stored (set m p b) (byte_stores (p + 1) bs))) place
    ∙ byte_stored elsewhere (set m p b) (p + 1) bs k (omega (arith, fits, length-set m p b)) (omega (arith, small))

-- the next byte is stored, and what is left gives what all give
pub byte_more : (whole now after : List ℕ) (at i : ℕ) (bytes : List ℕ) → i < length bytes → byte_at bytes i < 256
    → after ≡ stored now (stores 1 (at + i) (byte_at bytes i)) → stored now (byte_stores (at + i) (drop i bytes)) ≡ whole
    → stored after (byte_stores (at + (i + 1)) (drop (i + 1) bytes)) ≡ whole
unfolding byte_stores stored stores
byte_more whole now after at i bytes within small stored_is before =
    let next : at + (i + 1) ≡ at + i + 1 = omega arith in
    let byte : byte_at bytes i % 256 ≡ byte_at bytes i = omega (arith, small) in
    ap (λ m. stored m (byte_stores (at + (i + 1)) (drop (i + 1) bytes))) (stored_is ∙ ap (set now (at + i)) byte)
    ∙ ap (λ p. stored (set now (at + i) (byte_at bytes i)) (byte_stores p (drop (i + 1) bytes))) next
    ∙ sym (ap (λ bs. stored now (byte_stores (at + i) bs)) (drop_more bytes i 0 within)) ∙ before

pub bytes_done : (whole now : List ℕ) (at i : ℕ) (bytes : List ℕ) → length bytes ≤ i
    → stored now (byte_stores (at + i) (drop i bytes)) ≡ whole → now ≡ whole
unfolding byte_stores stored
bytes_done whole now at i bytes end all = sym (ap (λ bs. stored now (byte_stores (at + i) bs)) (drop_all i bytes end)) ∙ all
