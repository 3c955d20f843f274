-- The bytes of memory from a place on, and the words that they make.
use Rattle.std.proofs.Common.{◌≡◌, ℕ, zero, suc, ◌+◌, ◌*◌, ◌/◌, ◌%◌, ◌^◌, ◌<◌, ◌≤◌, List, [], ◌∷◌, ◌++◌, length, take, drop, get_or, w64, refl, ap, sym, subst, ◌∙◌, arith, lit≤, lit<}
use Rattle.std.specs.Int.{bytes_low_first, from_le_bytes, to_le_bytes}
use Rattle.std.specs.Int.{byte_at as byte_of}
use Rattle.std.proofs.Math.Nat.{div-div-eq-div-mul, mul_comm, pow-suc}
use Rattle.std.proofs.lemmas.List.{drop-drop, drop-take, get_or-drop, length-drop, length-take-le, take-append-drop, take_all}
use Rattle.std.proofs.lemmas.List.Elements.{All-cons, All-nil}
use Rattle.std.proofs.lemmas.Nat.{le_bytes_8}
use Rattle.phys_mem.specs.Memory.{IsBytes, byte_at, number_at}
use Rattle.x86_decode.specs.Spelling.{AreBytes}
use Rattle.cpu_step.specs.DecodingMemo.{bytes_of_words}
use Rattle.cpu_step.specs.CodeLines.{code_behind}

pub code_length : (m : List ℕ) (p i n : ℕ) → length (code_behind m p i n) ≡ n
code_length m p i zero = refl
code_length m p i (suc n) = ap suc (code_length m p (suc i) n)

-- the first seven bytes of a word without its lowest byte
shifted : (n : ℕ) → take 7 (to_le_bytes w64 (n / 256)) ≡ drop 1 (to_le_bytes w64 n)
shifted n =
    λ j. n / 256 % 256
    ∷ (div-div-eq-div-mul n 256 256 j % 256
    ∷ (div-div-eq-div-mul n 256 65536 j % 256
    ∷ (div-div-eq-div-mul n 256 16777216 j % 256
    ∷ (div-div-eq-div-mul n 256 4294967296 j % 256
    ∷ (div-div-eq-div-mul n 256 1099511627776 j % 256
    ∷ (div-div-eq-div-mul n 256 281474976710656 j % 256 ∷ []))))))

module _ (m : List ℕ) (bytes : IsBytes m) where
  pub code_bytes : (p i n : ℕ) → AreBytes (code_behind m p i n)
  code_bytes p i zero = All-nil (λ byte. byte < 256)
  code_bytes p i (suc n) = All-cons (λ byte. byte < 256) (byte_at m (p + i)) (code_behind m p (suc i) n) (bytes (p + i)) (code_bytes p (suc i) n)

  -- byte i of the number at a place
  digit : (n i p : ℕ) → i < n → byte_of i (number_at m n p) ≡ byte_at m (p + i)
  unfolding number_at
  digit zero i p below = absurd (omega (arith, below))
  digit (suc n) zero p below =
      let small : byte_at m p < 256 = bytes p in
      let low : (byte_at m p + 256 * number_at m n (p + 1)) % 256 ≡ byte_at m p = omega (arith, small) in
      low ∙ ap (byte_at m) (omega arith)
  digit (suc n) (suc i) p below =
      let small : byte_at m p < 256 = bytes p in
      let rest : (byte_at m p + 256 * number_at m n (p + 1)) / 256 ≡ number_at m n (p + 1) = omega (arith, small) in
      higher i (byte_at m p + 256 * number_at m n (p + 1))
      ∙ (ap (byte_of i) rest ∙ (digit n i (p + 1) (omega (arith, below)) ∙ ap (byte_at m) (omega arith)))
    where
      higher : (i v : ℕ) → byte_of (suc i) v ≡ byte_of i (v / 256)
      higher zero v = refl
      higher (suc i) v =
          ap (λ k. v / k % 256) (pow-suc 256 (suc i) ∙ mul_comm (256 ^ suc i) 256) ∙ ap (λ k. k % 256) (sym (div-div-eq-div-mul v 256 (256 ^ suc i)))

  pub word_bytes : (n i k p : ℕ) → i + k ≤ n → bytes_low_first i k (number_at m n p) ≡ code_behind m p i k
  word_bytes n i zero p within = refl
  word_bytes n i (suc k) p within = λ j. digit n i p (omega (arith, within)) j ∷ word_bytes n (suc i) k p (omega (arith, within)) j

  -- code behind the first a bytes
  later : (p a i n : ℕ) → code_behind m (p + a) i n ≡ code_behind m p (a + i) n
  later p a i zero = refl
  later p a i (suc n) =
      let place : p + a + i ≡ p + (a + i) = omega arith in
      let next : a + suc i ≡ suc (a + i) = omega arith in
      λ j. byte_at m (place j) ∷ (later p a (suc i) n ∙ ap (λ x. code_behind m p x n) next) j

  -- a word, and another one without its first byte, have the bytes of memory
  pub words_are_code : (p : ℕ) → bytes_of_words (number_at m 8 p) (number_at m 8 (p + 7) / 256) ≡ code_behind m p 0 15
  unfolding bytes_of_words
  words_are_code p =
      ap (λ x. to_le_bytes w64 (number_at m 8 p) ++ x) (shifted (number_at m 8 (p + 7)))
      ∙ ap (λ (x : List ℕ × List ℕ). x.0 ++ drop 1 x.1)
      (λ j. (word_bytes 8 0 8 p (lit≤ tt) j, (word_bytes 8 0 8 (p + 7) (lit≤ tt) ∙ later p 7 0 8) j))

-- a run of bytes has bytes
pub small_run : (n : ℕ) (xs : List ℕ) → ((i : ℕ) → get_or xs i 0 < 256) → (i : ℕ) → get_or (take n xs) i 0 < 256
small_run zero xs small i = lit< tt
small_run (suc n) [] small i = lit< tt
small_run (suc n) (x ∷ xs) small zero = small 0
small_run (suc n) (x ∷ xs) small (suc i) = small_run n xs (λ k. small (suc k)) i

-- fifteen bytes are those of their first eight as a word, and of the last eight without the first of them
pub fifteen_bytes : (bs : List ℕ) (low last : ℕ) → length bs ≡ 15 → ((i : ℕ) → get_or bs i 0 < 256) → low ≡ from_le_bytes w64 (take 8 (drop 0 bs)) →
    last ≡ from_le_bytes w64 (take 8 (drop 7 bs)) → bytes_of_words low (last / 256) ≡ bs
unfolding bytes_of_words
fifteen_bytes bs low last all small first second =
    let front : to_le_bytes w64 low ≡ take 8 bs =
    le_bytes_8 (take 8 bs) low (length-take-le 8 bs (omega (arith, all))) (small_run 8 bs small) first in
    let back : to_le_bytes w64 last ≡ take 8 (drop 7 bs) =
    le_bytes_8 (take 8 (drop 7 bs)) last (length-take-le 8 (drop 7 bs) (omega (arith, length-drop 7 bs, all))) (small_run 8 (drop 7 bs) (λ i. subst (λ x. x < 256) (sym (get_or-drop 7 bs i 0)) (small (7 + i)))) second in
    let rest : drop 1 (take 8 (drop 7 bs)) ≡ drop 8 bs =
    drop-take 1 7 (drop 7 bs) ∙ (ap (take 7) (drop-drop 1 7 bs) ∙ take_all 7 (drop 8 bs) (omega (arith, length-drop 8 bs, all))) in
    ap (λ x. to_le_bytes w64 low ++ x) (shifted last)
    ∙ (ap (λ (x : List ℕ × List ℕ). x.0 ++ drop 1 x.1) (λ j. (front j, back j))
    ∙ (ap (λ x. take 8 bs ++ x) rest ∙ take-append-drop 8 bs))
