-- Hexadecimal digits that are put into a room from the last to the first.
use Rattle.std.proofs.Common.{◌≡◌, ℕ, zero, suc, ◌+◌, ◌-◌, ◌*◌, ◌/◌, ◌%◌, ◌^◌, ◌<◌, ◌≤◌, Bool, true, false, List, [], ◌∷◌, ◌++◌, length, drop, set, sym, ap, ◌∙◌, refl, arith}
use Rattle.std.specs.Prelude.{◌==◌, if◌then◌else◌}
use Rattle.std.specs.Fmt.{digit_glyph, digits, digits_onto}
use Rattle.std.proofs.Math.ListN.{length-set}
use Rattle.std.proofs.Math.Nat.{pow-suc}
use Rattle.std.proofs.lemmas.Bool.{eq-eqb, ne_eqb}
use Rattle.std.proofs.lemmas.List.{drop-set}

-- what stands behind the digits stays behind them
either : (b : Bool) (x y shown more behind : List ℕ) → x ≡ shown ++ behind → y ≡ more ++ behind
    → (if b then x else y) ≡ (if b then shown else more) ++ behind
either true x y shown more behind one other = one
either false x y shown more behind one other = other

onto_append : (k n : ℕ) (shown behind : List ℕ)
    → digits_onto k 16 false n (shown ++ behind) ≡ digits_onto k 16 false n shown ++ behind
onto_append zero n shown behind = refl
onto_append (suc k) n shown behind =
    either (n / 16 == 0) _ _ (digit_glyph false (n % 16) ∷ shown)
    (digits_onto k 16 false (n / 16) (digit_glyph false (n % 16) ∷ shown)) behind refl
    (onto_append k (n / 16) (digit_glyph false (n % 16) ∷ shown) behind)

-- the last digit, and one more
onto_last : (k n : ℕ) (behind : List ℕ) → 0 < k → n / 16 ≡ 0
    → digits_onto k 16 false n behind ≡ digit_glyph false (n % 16) ∷ behind
onto_last zero n behind some e = absurd (omega arith)
onto_last (suc k) n behind some e = rw (eq-eqb (n / 16) 0 e) refl

onto_step : (k n : ℕ) (behind : List ℕ) → (n / 16 ≡ 0 → ⊥)
    → digits_onto (suc k) 16 false n behind ≡ digits_onto k 16 false (n / 16) (digit_glyph false (n % 16) ∷ behind)
onto_step k n behind more = rw (ne_eqb (n / 16) 0 more) refl

-- so many places are free, and the digits that are left go there
pub record IsFilling (number end : ℕ) (first : List ℕ) (rest start : ℕ) (room : List ℕ) : Type 0 where
  pub free : ℕ
  pub places : start + 16 ≡ end + free
  pub some : 0 < free
  pub most : free ≤ 16
  pub small : rest < 16 ^ free
  pub sized : length room ≡ length first
  pub same : digits_onto (free + 48) 16 false rest (drop start room) ≡ digits 16 false number ++ drop end first

pub begins : (number end : ℕ) (room : List ℕ) → number < 2 ^ 64 → IsFilling number end room number end room
unfolding digits
begins number end room fits = record {
  free = 16;
  places = refl;
  some = omega arith;
  most = omega arith;
  small = omega (arith, fits);
  sized = refl;
  same = onto_append 64 number [] (drop end room);
}

fewer : (free f rest : ℕ) → free ≡ suc f → rest < 16 ^ free → rest / 16 < 16 ^ f
fewer free f rest e small =
    let p : 16 ^ free ≡ 16 ^ f * 16 = ap (λ k. 16 ^ k) e ∙ pow-suc 16 f in omega (arith, small, p)

some_left : (f rest : ℕ) → (rest / 16 ≡ 0 → ⊥) → rest / 16 < 16 ^ f → 0 < f
some_left zero rest more small = absurd (more (omega (arith, small)))
some_left (suc f) rest more small = omega arith

-- a digit was put before those that stand there
put_digit : (room : List ℕ) (start digit : ℕ) → 0 < start → start ≤ length room
    → drop (start - 1) (set room (start - 1) digit) ≡ digit ∷ drop start room
put_digit room start digit some within =
    drop-set room (start - 1) digit (omega arith) ∙ ap (λ i. digit ∷ drop i room) (omega arith)

module _ (number end rest start digit : ℕ) (first room : List ℕ) (filling : IsFilling number end first rest start room)
    (behind : 16 ≤ end)
    (within : end ≤ length first) (is : digit ≡ digit_glyph false (rest % 16)) where
  put_here : drop (start - 1) (set room (start - 1) digit) ≡ digit_glyph false (rest % 16) ∷ drop start room
  put_here =
      put_digit room start digit (omega (arith, filling.places, filling.some, behind))
      (omega (arith, filling.places, filling.most, filling.sized, within))
      ∙ ap (λ d. d ∷ drop start room) is

  pub goes_on : (rest / 16 ≡ 0 → ⊥) → IsFilling number end first (rest / 16) (start - 1) (set room (start - 1) digit)
  goes_on more =
      let f = filling.free - 1 in
      let one_less : filling.free ≡ suc f = omega (arith, filling.some) in
      let count : suc (f + 48) ≡ filling.free + 48 = omega (arith, one_less) in
      let small = fewer filling.free f rest one_less filling.small in
      record {
        free = f;
        places = omega (arith, filling.places, filling.some, behind);
        some = some_left f rest more small;
        most = omega (arith, filling.most);
        small = small;
        sized = length-set room (start - 1) digit ∙ filling.sized;
        same = ap (digits_onto (f + 48) 16 false (rest / 16)) put_here
            ∙ sym (onto_step (f + 48) rest (drop start room) more)
            ∙ ap (λ k. digits_onto k 16 false rest (drop start room)) count
            ∙ filling.same;
      }

  pub ends : rest / 16 ≡ 0 → drop (start - 1) (set room (start - 1) digit) ≡ digits 16 false number ++ drop end first
  ends none =
      put_here ∙ sym (onto_last (filling.free + 48) rest (drop start room) (omega arith) none) ∙ filling.same
