-- What is tried in vain keeps the best: bytes that don't spell the instruction, and those that the best ones come before.
use Rattle.std.proofs.Common.{◌≡◌, ℕ, zero, suc, ◌+◌, ◌≤◌, Bool, true, false, ◌&&◌, ◌||◌, not, nat_eq, nat_lt, List, [], ◌∷◌, ◌++◌, length, refl, ap, sym, subst, ◌∙◌, arith, inl, inr}
use Rattle.std.specs.List.{flat_map, range_with_len}
use Rattle.std.proofs.lemmas.Bool.{and_left, and_parts, and_right, eq-eqb, eqb-true, ltb-true, not-true, or_cases, or_from, or_left, or_right, and_from, cases_lt}
use Rattle.x86_decode.specs.declared.instruction.Instr.{Instr}
use Rattle.asm_text.specs.Candidates.{best_of, better, improves, is_spelled}
use Rattle.asm_text.specs.LeastSpelling.{is_bytewise_least, is_not_behind}
use Rattle.asm_text.specs.Skipping.{is_ahead, is_behind}
use Rattle.asm_text.proofs.Bests.{kept}
use Rattle.asm_text.proofs.Orders.{shorter}

-- none of them takes the place of the best
abbrev pub IsVain : Instr → List ℕ → List (List ℕ) → Type 0
IsVain instr best [] = Unit {0}
IsVain instr best (bytes ∷ tried) = (better instr best bytes ≡ best) × IsVain instr best tried

pub vain_kept : (instr : Instr) (best : List ℕ) (tried : List (List ℕ)) → IsVain instr best tried → best_of instr best tried ≡ best
unfolding best_of
vain_kept instr best [] vain = refl
vain_kept instr best (bytes ∷ tried) vain =
    ap (λ b. best_of instr b tried) (vain.0) ∙ vain_kept instr best tried (vain.1)

vain_append : (instr : Instr) (best : List ℕ) (some others : List (List ℕ)) → IsVain instr best some → IsVain instr best others → IsVain instr best (some ++ others)
vain_append instr best [] others h g = g
vain_append instr best (bytes ∷ some) others h g = (h.0, vain_append instr best some others (h.1) g)

vain_from : (instr : Instr) (best : List ℕ) (each : ℕ → List (List ℕ)) → ((k : ℕ) → IsVain instr best (each k)) → (first count : ℕ) → IsVain instr best (flat_map each (range_with_len first count))
vain_from instr best each all first zero = tt
vain_from instr best each all first (suc count) =
    vain_append instr best (each first) (flat_map each (range_with_len (first + 1) count)) (all first) (vain_from instr best each all (first + 1) count)

pub vain_flat : (instr : Instr) (best : List ℕ) (each : ℕ → List (List ℕ)) → ((k : ℕ) → IsVain instr best (each k)) → (count : ℕ) → IsVain instr best (flat_map each (range_with_len 0 count))
vain_flat instr best each all count = vain_from instr best each all 0 count

-- what isn't tried keeps the best, too
pub none_kept : (instr : Instr) (best : List ℕ) (tried : List (List ℕ)) → tried ≡ [] → best ≡ best_of instr best tried
unfolding best_of
none_kept instr best tried none = sym (ap (best_of instr best) none)

pub unspelled_vain : (instr : Instr) (best bytes : List ℕ) → is_spelled instr bytes ≡ false → better instr best bytes ≡ best
unspelled_vain instr best bytes not_so = kept instr best bytes (and_right (improves best bytes) (is_spelled instr bytes) not_so)

-- there is a best one
some_best : (best : List ℕ) → not (nat_eq (length best) 0) ≡ true → nat_eq (length best) 0 ≡ false
some_best best some = not-true (nat_eq (length best) 0) some

ahead_improves : (best bytes : List ℕ) → nat_eq (length best) 0 ≡ false → is_not_behind best bytes ≡ true → improves best bytes ≡ false
unfolding improves
ahead_improves best bytes some ahead =
    or_from (nat_eq (length best) 0) (not (is_not_behind best bytes)) some (ap not ahead)

before_vain : (instr : Instr) (best bytes : List ℕ) → nat_eq (length best) 0 ≡ false → is_not_behind best bytes ≡ true → better instr best bytes ≡ best
before_vain instr best bytes some ahead =
    kept instr best bytes (and_left (improves best bytes) (is_spelled instr bytes) (ahead_improves best bytes some ahead))

-- bytes that begin with a stem, and are so many or more
pub record Begins (stem : List ℕ) (least : ℕ) (bytes : List ℕ) : Type 0 where
  pub rest : List ℕ
  pub is : bytes ≡ stem ++ rest
  pub long : least ≤ length bytes

abbrev pub AllBegin : List ℕ → ℕ → List (List ℕ) → Type 0
AllBegin stem least [] = Unit {0}
AllBegin stem least (bytes ∷ tried) = Begins stem least bytes × AllBegin stem least tried

pub begin_append : (stem : List ℕ) (least : ℕ) (some others : List (List ℕ)) → AllBegin stem least some → AllBegin stem least others → AllBegin stem least (some ++ others)
begin_append stem least [] others h g = g
begin_append stem least (bytes ∷ some) others h g = (h.0, begin_append stem least some others (h.1) g)

begin_from : (stem : List ℕ) (least : ℕ) (each : ℕ → List (List ℕ)) → ((k : ℕ) → AllBegin stem least (each k)) → (first count : ℕ) → AllBegin stem least (flat_map each (range_with_len first count))
begin_from stem least each all first zero = tt
begin_from stem least each all first (suc count) =
    begin_append stem least (each first) (flat_map each (range_with_len (first + 1) count)) (all first)
    (begin_from stem least each all (first + 1) count)

pub begin_flat : (stem : List ℕ) (least : ℕ) (each : ℕ → List (List ℕ)) → ((k : ℕ) → AllBegin stem least (each k)) → (count : ℕ) → AllBegin stem least (flat_map each (range_with_len 0 count))
begin_flat stem least each all count = begin_from stem least each all 0 count

-- with nothing in front, and fewer
pub begin_any : (stem : List ℕ) (least fewer : ℕ) (tried : List (List ℕ)) → fewer ≤ least → AllBegin stem least tried → AllBegin [] fewer tried
begin_any stem least fewer [] less all = tt
begin_any stem least fewer (bytes ∷ tried) less all =
    let first : Begins stem least bytes = all.0 in
    (record { rest = bytes; is = refl; long = omega (arith, first.long) }, begin_any stem least fewer tried less (all.1))

-- what comes before a stem comes before what begins with it
least_before : (best stem rest : List ℕ) → is_bytewise_least best stem ≡ true → is_bytewise_least best (stem ++ rest) ≡ true
least_before [] stem rest h = refl
least_before (byte ∷ best) [] rest h = absurd (cc)
least_before (byte ∷ best) (first ∷ stem) rest h = elim (or_cases (nat_lt byte first) (nat_eq byte first && is_bytewise_least best stem) h) [
  | inl less ↦ or_left (nat_lt byte first) (nat_eq byte first && is_bytewise_least best (stem ++ rest)) less
  | inr same ↦
      let parts : (nat_eq byte first ≡ true) × (is_bytewise_least best stem ≡ true) = and_parts (nat_eq byte first) (is_bytewise_least best stem) same in
      or_right (nat_lt byte first) (nat_eq byte first && is_bytewise_least best (stem ++ rest))
      (and_from (nat_eq byte first) (is_bytewise_least best (stem ++ rest)) (parts.0) (least_before best stem rest (parts.1)))
]

-- bytes that are longer, or as long and after the stem
ahead_of : (best stem bytes : List ℕ) (least : ℕ) → (nat_lt (length best) least || (nat_eq (length best) least && is_bytewise_least best stem)) ≡ true → Begins stem least bytes → is_not_behind best bytes ≡ true
ahead_of best stem bytes least h begins = elim (or_cases (nat_lt (length best) least) (nat_eq (length best) least && is_bytewise_least best stem) h) [
  | inl fewer ↦ shorter best bytes (omega (arith, ltb-true (length best) least fewer, begins.long))
  | inr same ↦
      let parts : (nat_eq (length best) least ≡ true) × (is_bytewise_least best stem ≡ true) = and_parts (nat_eq (length best) least) (is_bytewise_least best stem) same in
      let P : List ℕ → Type 0 = λ b. is_bytewise_least best b ≡ true in
      let before : is_bytewise_least best bytes ≡ true = subst P (sym begins.is) (least_before best stem begins.rest (parts.1)) in
      elim (cases_lt (length best) (length bytes)) [
        | inl fewer ↦ shorter best bytes fewer
        | inr no_fewer ↦
            or_right (nat_lt (length best) (length bytes)) (nat_eq (length best) (length bytes) && is_bytewise_least best bytes)
            (and_from (nat_eq (length best) (length bytes)) (is_bytewise_least best bytes)
            (eq-eqb (length best) (length bytes) (omega (arith, eqb-true (length best) least (parts.0), begins.long))) before)
      ]
]

ahead_each : (instr : Instr) (best stem : List ℕ) (least : ℕ) (tried : List (List ℕ)) → nat_eq (length best) 0 ≡ false → (nat_lt (length best) least || (nat_eq (length best) least && is_bytewise_least best stem)) ≡ true → AllBegin stem least tried → IsVain instr best tried
ahead_each instr best stem least [] some h all = tt
ahead_each instr best stem least (bytes ∷ tried) some h all =
    (before_vain instr best bytes some (ahead_of best stem bytes least h (all.0)), ahead_each instr best stem least tried some h (all.1))

pub ahead_kept : (instr : Instr) (best stem : List ℕ) (least : ℕ) (tried : List (List ℕ)) → is_ahead best stem least ≡ true → AllBegin stem least tried → best ≡ best_of instr best tried
unfolding is_ahead
ahead_kept instr best stem least tried ahead all =
    let test : Bool = nat_lt (length best) least || (nat_eq (length best) least && is_bytewise_least best stem) in
    let parts : (not (nat_eq (length best) 0) ≡ true) × (test ≡ true) = and_parts (not (nat_eq (length best) 0)) test ahead in
    sym (vain_kept instr best tried (ahead_each instr best stem least tried (some_best best (parts.0)) (parts.1) all))

pub behind_kept : (instr : Instr) (best : List ℕ) (least : ℕ) (tried : List (List ℕ)) → is_behind best least ≡ true → AllBegin [] least tried → best ≡ best_of instr best tried
unfolding is_behind
behind_kept instr best least tried behind all =
    let parts : (not (nat_eq (length best) 0) ≡ true) × (nat_lt (length best) least ≡ true) = and_parts (not (nat_eq (length best) 0)) (nat_lt (length best) least) behind in
    sym (vain_kept instr best tried (ahead_each instr best [] least tried (some_best best (parts.0))
    (or_left (nat_lt (length best) least) (nat_eq (length best) least && is_bytewise_least best []) (parts.1)) all))
