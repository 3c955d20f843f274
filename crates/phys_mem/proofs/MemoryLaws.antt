-- What reads find after stores and patches: elsewhere, and at the same place.
use Rattle.std.proofs.Common.{◌≡◌, ◌≢◌, ◌⊎◌, ℕ, zero, suc, ◌+◌, ◌*◌, ◌/◌, ◌%◌, ◌^◌, ◌<◌, ◌≤◌, List, [], ◌∷◌, ◌++◌, length, set, All, arith, rules, refl, sym, ap, ◌∙◌, inl, inr}
use Rattle.std.proofs.lemmas.Grind.{common_steps}
use Rattle.std.proofs.lemmas.List.{places, get_or-set_same, get_or-set_other, length-set, set_past}
use Rattle.std.proofs.lemmas.Bool.{cases_lt, cases_eq}
use Rattle.std.proofs.lemmas.List.Elements.{All-head, All-tail, All-cons, All-nil, All-weaker}
use Rattle.std.proofs.Math.Nat.{pow-suc, pow-succ', div-div-eq-div-mul, div-one, mod-one, one-le-pow}
use Rattle.std.proofs.Math.Arith.{mod-mul}
use Rattle.phys_mem.specs.Memory.{IsBytes, byte_at, number_at, stores, stored, patched}

-- stores change no length
pub length-stored : (m : List ℕ) (ws : List (ℕ × ℕ)) → length (stored m ws) ≡ length m
unfolding stored
length-stored m [] = refl
length-stored m (w ∷ ws) = length-stored (set m w.0 w.1) ws ∙ length-set m w.0 w.1

-- stores in two parts
pub stored-append : (m : List ℕ) (ws zs : List (ℕ × ℕ)) → stored m (ws ++ zs) ≡ stored (stored m ws) zs
unfolding stored
stored-append m [] zs = refl
stored-append m (w ∷ ws) zs = stored-append (set m w.0 w.1) ws zs

-- a byte that no store names stays
pub byte_elsewhere : (m : List ℕ) (ws : List (ℕ × ℕ)) (q : ℕ) → All (λ w. w.0 ≢ q) ws → byte_at (stored m ws) q ≡ byte_at m q
unfolding stored
byte_elsewhere m [] q apart = refl
byte_elsewhere m (w ∷ ws) q apart =
    let ne : q ≢ w.0 = λ e. All-head (λ w. w.0 ≢ q) w ws apart (sym e) in
    byte_elsewhere (set m w.0 w.1) ws q (All-tail (λ w. w.0 ≢ q) w ws apart) ∙ get_or-set_other m w.0 q w.1 0 ne

-- memories whose bytes agree at the n places from p on spell one number there
pub number_same : (l m : List ℕ) (n p : ℕ) → ((q : ℕ) → p ≤ q → q < p + n → byte_at l q ≡ byte_at m q) → number_at l n p ≡ number_at m n p
unfolding number_at
number_same l m zero p agree = refl
number_same l m (suc n) p agree =
    let first : byte_at l p ≡ byte_at m p = agree p (omega arith) (omega arith) in
    let rest : number_at l n (p + 1) ≡ number_at m n (p + 1) = number_same l m n (p + 1) (λ q a b. agree q (omega arith) (omega arith)) in
    omega (arith, first, rest)

-- a number none of whose bytes a store names stays
pub number_elsewhere : (m : List ℕ) (ws : List (ℕ × ℕ)) (n p : ℕ) → All (λ w. (w.0 < p) ⊎ (p + n ≤ w.0)) ws → number_at (stored m ws) n p ≡ number_at m n p
number_elsewhere m ws n p apart =
    number_same (stored m ws) m n p
    (λ q a b. byte_elsewhere m ws q (All-weaker (λ w. (w.0 < p) ⊎ (p + n ≤ w.0)) (λ w. w.0 ≢ q) (λ w s e. elim s [ inl h ↦ omega (arith, h, e) | inr h ↦ omega (arith, h, e) ]) ws apart))

-- where the stores of a number stand
pub stores_within : (n p v : ℕ) → All (λ w. (p ≤ w.0) × (w.0 < p + n)) (stores n p v)
unfolding stores
stores_within zero p v = All-nil (λ w. (p ≤ w.0) × (w.0 < p + zero))
stores_within (suc n) p v =
    All-cons (λ w. (p ≤ w.0) × (w.0 < p + suc n)) (p, v % 256) (stores n (p + 1) (v / 256)) (omega arith, omega arith)
    (All-weaker (λ w. (p + 1 ≤ w.0) × (w.0 < p + 1 + n)) (λ w. (p ≤ w.0) × (w.0 < p + suc n)) (λ w h. (omega (arith, h.0), omega (arith, h.1))) (stores n (p + 1) (v / 256)) (stores_within n (p + 1) (v / 256)))

-- a byte below, and above, the stores of a number stays
pub byte_below : (m : List ℕ) (n p v q : ℕ) → q < p → byte_at (stored m (stores n p v)) q ≡ byte_at m q
byte_below m n p v q h = byte_elsewhere m (stores n p v) q (All-weaker (λ w. (p ≤ w.0) × (w.0 < p + n)) (λ w. w.0 ≢ q) (λ w s e. omega (arith, s.0, e)) (stores n p v) (stores_within n p v))

pub byte_above : (m : List ℕ) (n p v q : ℕ) → p + n ≤ q → byte_at (stored m (stores n p v)) q ≡ byte_at m q
byte_above m n p v q h = byte_elsewhere m (stores n p v) q (All-weaker (λ w. (p ≤ w.0) × (w.0 < p + n)) (λ w. w.0 ≢ q) (λ w s e. omega (arith, s.1, e)) (stores n p v) (stores_within n p v))

-- a byte among the stores of a number is the number's
pub byte_in : (m : List ℕ) (n p v k : ℕ) → p + n ≤ length m → k < n → byte_at (stored m (stores n p v)) (p + k) ≡ v / 256 ^ k % 256
unfolding stored stores
byte_in m zero p v k fits h = absurd (omega (arith, h))
byte_in m (suc n) p v zero fits h =
    let place : p + 0 ≡ p = omega arith in
    rw place (byte_below (set m p (v % 256)) n (p + 1) (v / 256) p (omega arith) ∙ get_or-set_same m p (v % 256) 0 (omega arith) ∙ ap (λ x. x % 256) (sym (div-one v)))
byte_in m (suc n) p v (suc k) fits h =
    let later : byte_at (stored (set m p (v % 256)) (stores n (p + 1) (v / 256))) (p + 1 + k) ≡ v / 256 / 256 ^ k % 256 =
    byte_in (set m p (v % 256)) n (p + 1) (v / 256) k (omega (arith, length-set m p (v % 256))) (omega arith) in
    let place : p + suc k ≡ p + 1 + k = omega arith in
    let power : v / 256 ^ suc k ≡ v / 256 / 256 ^ k = ap (λ x. v / x) (pow-succ' 256 k) ∙ sym (div-div-eq-div-mul v 256 (256 ^ k)) in
    rw place (rw power later)

-- the number just stored is read back, cut to its bytes
pub number_stored : (m : List ℕ) (n p v : ℕ) → p + n ≤ length m → number_at (stored m (stores n p v)) n p ≡ v % 256 ^ n
unfolding stored stores number_at
number_stored m zero p v fits = sym (mod-one v)
number_stored m (suc n) p v fits =
    let first : byte_at (stored (set m p (v % 256)) (stores n (p + 1) (v / 256))) p ≡ v % 256 =
    byte_below (set m p (v % 256)) n (p + 1) (v / 256) p (omega arith) ∙ get_or-set_same m p (v % 256) 0 (omega arith) in
    let rest : number_at (stored (set m p (v % 256)) (stores n (p + 1) (v / 256))) n (p + 1) ≡ v / 256 % 256 ^ n =
    number_stored (set m p (v % 256)) n (p + 1) (v / 256) (omega (arith, length-set m p (v % 256))) in
    let split : v % 256 ^ suc n ≡ (v / 256 % 256 ^ n) * 256 + v % 256 = ap (λ x. v % x) (pow-suc 256 n) ∙ mod-mul v (one-le-pow n 256 (omega arith)) (omega arith) in
    omega (arith, first, rest, split)

-- a number of n bytes is below 256 ^ n
pub number_bound : (m : List ℕ) (n p : ℕ) → IsBytes m → number_at m n p < 256 ^ n
unfolding number_at
number_bound m zero p bytes = omega arith
number_bound m (suc n) p bytes = omega (arith, bytes p, number_bound m n (p + 1) bytes, pow-suc 256 n)

-- a store of one byte, made last, is read back
pub byte_last : (m : List ℕ) (ws : List (ℕ × ℕ)) (q b : ℕ) → q < length m → byte_at (stored m (ws ++ (q, b) ∷ [])) q ≡ b
unfolding stored
byte_last m ws q b fits =
    ap (λ l. byte_at l q) (stored-append m ws ((q, b) ∷ [])) ∙ get_or-set_same (stored m ws) q b 0 (omega (arith, length-stored m ws))

-- the stores of a number are of bytes, and memory goes on being made of bytes
pub stores_bytes : (n p v : ℕ) → All (λ w. w.1 < 256) (stores n p v)
unfolding stores
stores_bytes zero p v = All-nil (λ w. w.1 < 256)
stores_bytes (suc n) p v = All-cons (λ w. w.1 < 256) (p, v % 256) (stores n (p + 1) (v / 256)) (omega arith) (stores_bytes n (p + 1) (v / 256))

set_bytes : (m : List ℕ) (p b : ℕ) → b < 256 → IsBytes m → IsBytes (set m p b)
set_bytes m p b small bytes q =
    elim (cases_eq q p) [
      | inl same ↦ elim (cases_lt p (length m)) [
        | inl inside ↦ omega (arith, ap (λ x. byte_at (set m p b) x) same, get_or-set_same m p b 0 inside)
        | inr past ↦ omega (arith, bytes q, ap (λ l. byte_at l q) (set_past m p b past))
      ]
      | inr other ↦ omega (arith, bytes q, get_or-set_other m p q b 0 other)
    ]

pub stored_bytes : (m : List ℕ) (ws : List (ℕ × ℕ)) → All (λ w. w.1 < 256) ws → IsBytes m → IsBytes (stored m ws)
unfolding stored
stored_bytes m [] small bytes q = bytes q
stored_bytes m (w ∷ ws) small bytes q =
    stored_bytes (set m w.0 w.1) ws (All-tail (λ w. w.1 < 256) w ws small) (set_bytes m w.0 w.1 (All-head (λ w. w.1 < 256) w ws small) bytes) q

-- a patch changes no length where it fits
pub length-patched : (m : List ℕ) (p : ℕ) (bs : List ℕ) → p + length bs ≤ length m → length (patched m p bs) ≡ length m
unfolding patched
length-patched m p bs fits = search (rules, places)

-- a byte below, in and above a patch
pub patched_below : (m : List ℕ) (p : ℕ) (bs : List ℕ) (q : ℕ) → p + length bs ≤ length m → q < p → byte_at (patched m p bs) q ≡ byte_at m q
unfolding patched
patched_below m p bs q fits h = grind (arith, common_steps)

pub patched_in : (m : List ℕ) (p : ℕ) (bs : List ℕ) (k : ℕ) → p + length bs ≤ length m → k < length bs → byte_at (patched m p bs) (p + k) ≡ byte_at bs k
unfolding patched
patched_in m p bs k fits h = grind (arith, common_steps)

pub patched_above : (m : List ℕ) (p : ℕ) (bs : List ℕ) (q : ℕ) → p + length bs ≤ length m → p + length bs ≤ q → byte_at (patched m p bs) q ≡ byte_at m q
unfolding patched
patched_above m p bs q fits h = grind (arith, places)
