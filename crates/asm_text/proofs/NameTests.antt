-- The names of all operations, one by one: each stands at its operation's number, is found there first, and has no dot and
-- at most seven bytes. No text without prefixes begins with the word of one.
use Rattle.std.proofs.Common.{◌≡◌, ℕ, ◌<◌, ◌≤◌, Bool, true, false, List, ◌∷◌, ◌++◌, length, nat_eq, nat_lt, nat_le, refl, ap, ◌∙◌}
use Rattle.std.specs.Prelude.{◌&&◌}
use Rattle.std.specs.Str.{bytes_eq}
use Rattle.std.proofs.lemmas.Bool.{agree_below_at, and_parts, eqb-true, leb-true, ltb-true}
use Rattle.std.proofs.lemmas.List.{get_or_default}
use Rattle.std.proofs.lemmas.Slice.Eq.{bytes_eq-Decides}
use Rattle.decode_fields.specs.declared.parts.Rep.TheVariants.{No}
use Rattle.x86_decode.specs.declared.operation.Op.{Op}
use Rattle.x86_decode.specs.declared.operation.Op.TheVariants.{Add, Cmov, J, Nop, Set}
use Rattle.x86_decode.specs.WellFormed.{HasCondition}
use Rattle.asm_text.specs.declared.operation.TheConstants.{ALL_OPS, OPERATIONS}
use Rattle.asm_text.specs.Operations.{number_of_operation, op_name}
use Rattle.asm_text.specs.ParsedTexts.{all_names, behind_rep, has_lock, name_at, op_at, op_named, place_of_name, rep_said}
use Rattle.asm_text.proofs.OperationLemmas.{listed, number_small}
use Rattle.asm_text.proofs.WordMarks.{lacks}

abbrev place_passes : Op → Bool
place_passes op =
    nat_eq (place_of_name (op_name op)) (number_of_operation op)
    && bytes_eq (name_at (number_of_operation op)) (op_name op)

abbrev form_passes : Op → Bool
form_passes op = lacks 46 (op_name op) && nat_le (length (op_name op)) 7

places : (op : Op) → HasCondition op → place_passes op ≡ true
unfolding op_name place_of_name all_names
places (Cmov condition) has = agree_below_at (λ c. place_passes (Cmov c)) (λ c. true) 16 condition refl has
places (Set condition) has = agree_below_at (λ c. place_passes (Set c)) (λ c. true) 16 condition refl has
places (J condition) has = agree_below_at (λ c. place_passes (J c)) (λ c. true) 16 condition refl has
places _ has = refl

forms : (op : Op) → HasCondition op → form_passes op ≡ true
unfolding op_name
forms (Cmov condition) has = agree_below_at (λ c. form_passes (Cmov c)) (λ c. true) 16 condition refl has
forms (Set condition) has = agree_below_at (λ c. form_passes (Set c)) (λ c. true) 16 condition refl has
forms (J condition) has = agree_below_at (λ c. form_passes (J c)) (λ c. true) 16 condition refl has
forms _ has = refl

pub name_stands : (op : Op) → HasCondition op → name_at (number_of_operation op) ≡ op_name op
name_stands op has =
    let passed = and_parts (nat_eq (place_of_name (op_name op)) (number_of_operation op))
    (bytes_eq (name_at (number_of_operation op)) (op_name op)) (places op has) in
    (bytes_eq-Decides (name_at (number_of_operation op)) (op_name op)).0 passed.1

pub name_back : (op : Op) → HasCondition op → op_named (op_name op) ≡ op
name_back op has =
    let number = number_of_operation op in
    let passed = and_parts (nat_eq (place_of_name (op_name op)) number) (bytes_eq (name_at number) (op_name op))
    (places op has) in
    ap op_at (eqb-true (place_of_name (op_name op)) number passed.0)
    ∙ (get_or_default ALL_OPS number Add Nop (number_small op has) ∙ listed op has)

pub name_no_dot : (op : Op) → HasCondition op → lacks 46 (op_name op) ≡ true
name_no_dot op has = (and_parts (lacks 46 (op_name op)) (nat_le (length (op_name op)) 7) (forms op has)).0

pub name_short : (op : Op) → HasCondition op → length (op_name op) ≤ 7
name_short op has =
    leb-true (length (op_name op)) 7
    (and_parts (lacks 46 (op_name op)) (nat_le (length (op_name op)) 7) (forms op has)).1

-- a name and a dot are no prefix
pub name_no_lock : (op : Op) (rest : List ℕ) → has_lock (op_name op ++ (46 ∷ rest)) ≡ false
unfolding op_name
name_no_lock (Cmov condition) rest = refl
name_no_lock (Set condition) rest = refl
name_no_lock (J condition) rest = refl
name_no_lock _ rest = refl

pub name_no_rep : (op : Op) (rest : List ℕ) → rep_said (op_name op ++ (46 ∷ rest)) ≡ No
unfolding op_name
name_no_rep (Cmov condition) rest = refl
name_no_rep (Set condition) rest = refl
name_no_rep (J condition) rest = refl
name_no_rep _ rest = refl

pub name_behind_rep : (op : Op) (rest : List ℕ) → behind_rep (op_name op ++ (46 ∷ rest)) ≡ op_name op ++ (46 ∷ rest)
unfolding op_name
name_behind_rep (Cmov condition) rest = refl
name_behind_rep (Set condition) rest = refl
name_behind_rep (J condition) rest = refl
name_behind_rep _ rest = refl

-- each operation in the row of all has a condition of the sixteen, if it has one
abbrev condition_passes : Op → Bool
condition_passes (Cmov condition) = nat_lt condition 16
condition_passes (Set condition) = nat_lt condition 16
condition_passes (J condition) = nat_lt condition 16
condition_passes _ = true

condition_is : (op : Op) → condition_passes op ≡ true → HasCondition op
condition_is (Cmov condition) passed = ltb-true condition 16 passed
condition_is (Set condition) passed = ltb-true condition 16 passed
condition_is (J condition) passed = ltb-true condition 16 passed
condition_is _ passed = tt

pub listed_has_condition : (place : ℕ) → place < OPERATIONS → HasCondition (op_at place)
listed_has_condition place small =
    condition_is (op_at place)
    (agree_below_at (λ n. condition_passes (op_at n)) (λ n. true) OPERATIONS place refl small)
