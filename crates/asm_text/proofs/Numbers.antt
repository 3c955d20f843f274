-- The bytes of a number that bytes hold are these bytes, whatever its sign and wherever it is cut.
use Rattle.std.proofs.Common.{◌≡◌, ℕ, zero, suc, ◌+◌, ◌-◌, ◌*◌, ◌/◌, ◌%◌, ◌^◌, ◌<◌, ◌≤◌, ◌⊎◌, nat_lt, List, [], ◌∷◌, ◌++◌, length, take, refl, ap, sym, ◌∙◌, arith, inl, inr}
use Rattle.std.proofs.Math.Nat.{mod-add-div, mul_assoc, pow-succ'}
use Rattle.std.proofs.lemmas.Bool.{cases_Bool, cond-true, cond-false}
use Rattle.std.proofs.lemmas.List.{append-nil, append_assoc}
use Rattle.std.proofs.lemmas.List.Elements.{All-head, All-tail}
use Rattle.decode_fields.specs.Immediates.{number_of, sign_extended, signed_number}
use Rattle.decode_fields.specs.Widths.{IsWidth}
use Rattle.x86_decode.specs.Meaning.{cut_number}
use Rattle.x86_decode.specs.Spelling.{AreBytes}
use Rattle.asm_text.specs.Assembly.{number_bytes_of}

both_heads : (x y : ℕ) (a b : List ℕ) → x ≡ y → a ≡ b → x ∷ a ≡ y ∷ b
both_heads x y a b same rest = ap (λ h. h ∷ a) same ∙ ap (λ t. y ∷ t) rest

pub bytes_back : (size : ℕ) (bytes : List ℕ) → AreBytes bytes → size ≤ length bytes → number_bytes_of size (number_of size bytes) ≡ take size bytes
bytes_back zero bytes are there = refl
bytes_back (suc size) [] are there = absurd (omega arith)
bytes_back (suc size) (byte ∷ bytes) are there =
    let small : byte < 256 = All-head (λ b. b < 256) byte bytes are in
    let rest : ℕ = number_of size bytes in
    let low : (byte + 256 * rest) % 256 ≡ byte = omega arith in
    let high : (byte + 256 * rest) / 256 ≡ rest = omega arith in
    both_heads ((byte + 256 * rest) % 256) byte (number_bytes_of size ((byte + 256 * rest) / 256)) (take size bytes) low
    (ap (number_bytes_of size) high ∙ bytes_back size bytes (All-tail (λ b. b < 256) byte bytes are) (omega arith))

-- what stands above the bytes doesn't count
above : (size number more : ℕ) → number_bytes_of size (number + 256 ^ size * more) ≡ number_bytes_of size number
above zero number more = refl
above (suc size) number more =
    let part : ℕ = 256 ^ size * more in
    let whole : 256 ^ suc size * more ≡ 256 * part = ap (λ t. t * more) (pow-succ' 256 size) ∙ mul_assoc 256 (256 ^ size) more in
    let low : (number + 256 ^ suc size * more) % 256 ≡ number % 256 = omega (arith, whole) in
    let high : (number + 256 ^ suc size * more) / 256 ≡ number / 256 + part = omega (arith, whole) in
    both_heads ((number + 256 ^ suc size * more) % 256) (number % 256) (number_bytes_of size ((number + 256 ^ suc size * more) / 256)) (number_bytes_of size (number / 256)) low
    (ap (number_bytes_of size) high ∙ above size (number / 256) more)

-- a number that was extended by its sign, where the bits above are so many times those of the bytes
extended : (size width number more : ℕ) → 2 ^ 64 - 2 ^ width ≡ 256 ^ size * more → number_bytes_of size (sign_extended width number) ≡ number_bytes_of size number
extended size width number more bits = elim (cases_Bool (nat_lt number (2 ^ (width - 1)))) [
  | inl low ↦ ap (number_bytes_of size) (cond-true (nat_lt number (2 ^ (width - 1))) number (number + (2 ^ 64 - 2 ^ width)) low)
  | inr high ↦
      ap (number_bytes_of size) (cond-false (nat_lt number (2 ^ (width - 1))) number (number + (2 ^ 64 - 2 ^ width)) high ∙ ap (λ b. number + b) bits)
      ∙ above size number more
]

-- a number that was cut above its bytes
cut : (size width number more : ℕ) → 2 ^ width ≡ 256 ^ size * more → number_bytes_of size (number % 2 ^ width) ≡ number_bytes_of size number
cut size width number more bits =
    let part : ℕ = number / 2 ^ width in
    let split : number % 2 ^ width + 256 ^ size * (more * part) ≡ number =
    ap (λ t. number % 2 ^ width + t) (sym (ap (λ b. b * part) bits ∙ mul_assoc (256 ^ size) more part)) ∙ mod-add-div number (2 ^ width) in
    sym (above size (number % 2 ^ width) (more * part)) ∙ ap (number_bytes_of size) split

-- the bytes of a displacement, or of an immediate before it is cut
pub signed_back_1 : (bytes : List ℕ) → AreBytes bytes → 1 ≤ length bytes → number_bytes_of 1 (signed_number 8 bytes) ≡ take 1 bytes
signed_back_1 bytes are there = extended 1 8 (number_of 1 bytes) 72057594037927935 refl ∙ bytes_back 1 bytes are there

pub signed_back_2 : (bytes : List ℕ) → AreBytes bytes → 2 ≤ length bytes → number_bytes_of 2 (signed_number 16 bytes) ≡ take 2 bytes
signed_back_2 bytes are there = extended 2 16 (number_of 2 bytes) 281474976710655 refl ∙ bytes_back 2 bytes are there

pub signed_back_4 : (bytes : List ℕ) → AreBytes bytes → 4 ≤ length bytes → number_bytes_of 4 (signed_number 32 bytes) ≡ take 4 bytes
signed_back_4 bytes are there = extended 4 32 (number_of 4 bytes) 4294967295 refl ∙ bytes_back 4 bytes are there

pub signed_back_8 : (bytes : List ℕ) → AreBytes bytes → 8 ≤ length bytes → number_bytes_of 8 (signed_number 64 bytes) ≡ take 8 bytes
signed_back_8 bytes are there = extended 8 64 (number_of 8 bytes) 0 refl ∙ bytes_back 8 bytes are there

-- the same of an immediate, which is cut to the width
pub cut_back_1 : (width : ℕ) (bytes : List ℕ) → IsWidth width → AreBytes bytes → 1 ≤ length bytes → number_bytes_of 1 (cut_number 1 width bytes) ≡ take 1 bytes
cut_back_1 width bytes (inl is) are there =
    ap (λ w. number_bytes_of 1 (cut_number 1 w bytes)) is ∙ (cut 1 8 (signed_number 8 bytes) 1 refl ∙ signed_back_1 bytes are there)
cut_back_1 width bytes (inr (inl is)) are there =
    ap (λ w. number_bytes_of 1 (cut_number 1 w bytes)) is ∙ (cut 1 16 (signed_number 8 bytes) 256 refl ∙ signed_back_1 bytes are there)
cut_back_1 width bytes (inr (inr (inl is))) are there =
    ap (λ w. number_bytes_of 1 (cut_number 1 w bytes)) is ∙ (cut 1 32 (signed_number 8 bytes) 16777216 refl ∙ signed_back_1 bytes are there)
cut_back_1 width bytes (inr (inr (inr is))) are there =
    ap (λ w. number_bytes_of 1 (cut_number 1 w bytes)) is ∙ (cut 1 64 (signed_number 8 bytes) 72057594037927936 refl ∙ signed_back_1 bytes are there)

pub cut_back_2 : (bytes : List ℕ) → AreBytes bytes → 2 ≤ length bytes → number_bytes_of 2 (cut_number 2 16 bytes) ≡ take 2 bytes
cut_back_2 bytes are there = cut 2 16 (signed_number 16 bytes) 1 refl ∙ signed_back_2 bytes are there

pub cut_back_4 : (width : ℕ) (bytes : List ℕ) → (width ≡ 32) ⊎ (width ≡ 64) → AreBytes bytes → 4 ≤ length bytes → number_bytes_of 4 (cut_number 4 width bytes) ≡ take 4 bytes
cut_back_4 width bytes (inl is) are there =
    ap (λ w. number_bytes_of 4 (cut_number 4 w bytes)) is ∙ (cut 4 32 (signed_number 32 bytes) 1 refl ∙ signed_back_4 bytes are there)
cut_back_4 width bytes (inr is) are there =
    ap (λ w. number_bytes_of 4 (cut_number 4 w bytes)) is ∙ (cut 4 64 (signed_number 32 bytes) 4294967296 refl ∙ signed_back_4 bytes are there)

pub cut_back_8 : (bytes : List ℕ) → AreBytes bytes → 8 ≤ length bytes → number_bytes_of 8 (cut_number 8 64 bytes) ≡ take 8 bytes
cut_back_8 bytes are there = cut 8 64 (signed_number 64 bytes) 1 refl ∙ signed_back_8 bytes are there

-- a byte more of a number that is put behind others, and the last one
pub put_step : (items : List ℕ) (size done rest : ℕ) → done < size → (items ++ (rest % 256) ∷ []) ++ number_bytes_of (size - (done + 1)) (rest / 256) ≡ items ++ number_bytes_of (size - done) rest
put_step items size done rest within =
    let left : suc (size - (done + 1)) ≡ size - done = omega arith in
    append_assoc items ((rest % 256) ∷ []) (number_bytes_of (size - (done + 1)) (rest / 256))
    ∙ ap (λ n. items ++ number_bytes_of n rest) left

pub put_end : (items : List ℕ) (size done rest : ℕ) → size ≤ done → items ++ number_bytes_of (size - done) rest ≡ items
put_end items size done rest past =
    let left : size - done ≡ 0 = omega arith in
    ap (λ n. items ++ number_bytes_of n rest) left ∙ append-nil items
