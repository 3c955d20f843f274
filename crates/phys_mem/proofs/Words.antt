-- A number of two, four or eight bytes, least significant first: as it is read, and as it is stored.
use Rattle.std.proofs.Common.{◌≡◌, ℕ, zero, suc, ◌+◌, ◌/◌, ◌%◌, ◌^◌, ◌<◌, ◌≤◌, List, length, take, drop, get_or, set, refl, sym, ap, ◌∙◌, arith, w16, w32, w64, lit<, add-one}
use Rattle.std.specs.Int.{from_le_bytes, bytes_low_first, byte_at}
use Rattle.std.proofs.lemmas.List.{get_or-take, get_or-drop}
use Rattle.std.proofs.Math.Nat.{div-div-eq-div-mul, pow-suc, div-one}
use Rattle.std.proofs.Math.Seq.{sets}
use Rattle.phys_mem.specs.Memory.{number_at, stores, stored, patched}
use Rattle.phys_mem.proofs.Patches.{sets-patched}

-- byte i of a run of n is that of the memory
byte_of : (m : List ℕ) (n p i q : ℕ) → i < n → p + i ≡ q → get_or (take n (drop p m)) i 0 ≡ get_or m q 0
byte_of m n p i q h e = get_or-take n (drop p m) i 0 h ∙ (get_or-drop p m i 0 ∙ ap (λ k. get_or m k 0) e)

pub number_at-le16 : (m : List ℕ) (p : ℕ) → number_at m 2 p ≡ from_le_bytes w16 (take 2 (drop p m))
unfolding number_at
number_at-le16 m p = omega (arith, byte_of m 2 p 0 p (lit< tt) (omega arith), byte_of m 2 p 1 (p + 1) (lit< tt) refl)

pub number_at-le32 : (m : List ℕ) (p : ℕ) → number_at m 4 p ≡ from_le_bytes w32 (take 4 (drop p m))
unfolding number_at
number_at-le32 m p =
    omega (
      arith,
      byte_of m 4 p 0 p (lit< tt) (omega arith),
      byte_of m 4 p 1 (p + 1) (lit< tt) refl,
      byte_of m 4 p 2 (p + 1 + 1) (lit< tt) (omega arith),
      byte_of m 4 p 3 (p + 1 + 1 + 1) (lit< tt) (omega arith),
    )

pub number_at-le64 : (m : List ℕ) (p : ℕ) → number_at m 8 p ≡ from_le_bytes w64 (take 8 (drop p m))
unfolding number_at
number_at-le64 m p =
    omega (
      arith,
      byte_of m 8 p 0 p (lit< tt) (omega arith),
      byte_of m 8 p 1 (p + 1) (lit< tt) refl,
      byte_of m 8 p 2 (p + 1 + 1) (lit< tt) (omega arith),
      byte_of m 8 p 3 (p + 1 + 1 + 1) (lit< tt) (omega arith),
      byte_of m 8 p 4 (p + 1 + 1 + 1 + 1) (lit< tt) (omega arith),
      byte_of m 8 p 5 (p + 1 + 1 + 1 + 1 + 1) (lit< tt) (omega arith),
      byte_of m 8 p 6 (p + 1 + 1 + 1 + 1 + 1 + 1) (lit< tt) (omega arith),
      byte_of m 8 p 7 (p + 1 + 1 + 1 + 1 + 1 + 1 + 1) (lit< tt) (omega arith),
    )

-- byte i of v
byte_at-div : (i v : ℕ) → byte_at i v ≡ v / 256 ^ i % 256
byte_at-div zero v = ap (λ k. k % 256) (sym (div-one v))
byte_at-div (suc i) v = refl

next : (i v : ℕ) → v / 256 ^ i / 256 ≡ v / 256 ^ suc i
next i v = div-div-eq-div-mul v (256 ^ i) 256 ∙ ap (λ k. v / k) (sym (pow-suc 256 i))

-- storing n bytes of v, from byte i on, sets them in turn
stored-sets : (n i p v : ℕ) (m : List ℕ) → stored m (stores n p (v / 256 ^ i)) ≡ sets m p (bytes_low_first i n v)
unfolding stores stored
stored-sets zero i p v m = refl
stored-sets (suc n) i p v m =
    ap (λ (k : ℕ × ℕ × ℕ). stored (set m p k.0) (stores n k.1 k.2)) (λ j. (sym (byte_at-div i v) j, add-one p j, next i v j)) ∙ stored-sets n (suc i) (suc p) v (set m p (byte_at i v))

pub stored-patched : (m : List ℕ) (n p v : ℕ) → p + length (bytes_low_first 0 n v) ≤ length m → stored m (stores n p v) ≡ patched m p (bytes_low_first 0 n v)
stored-patched m n p v h = ap (λ k. stored m (stores n p k)) (sym (div-one v)) ∙ (stored-sets n 0 p v m ∙ sets-patched m p (bytes_low_first 0 n v) h)
