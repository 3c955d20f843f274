-- Each operation is the one at its number, so that no two have one number, and those that there are stand in the row.
use Rattle.std.proofs.Common.{◌≡◌, ℕ, zero, suc, Bool, cond, ◌+◌, ◌-◌, ◌*◌, ◌/◌, ◌%◌, ◌<◌, true, nat_lt, get_or, refl, ap, sym, ◌∙◌, arith}
use Rattle.std.proofs.lemmas.Bool.{agree_below, agree_below_at, cond-false, eq-eqb, eqb-true, le-ltb}
use Rattle.x86_decode.specs.declared.operation.Op.{Op}
use Rattle.x86_decode.specs.declared.operation.Op.TheVariants.{Cmov, Set, J, Nop}
use Rattle.x86_decode.specs.WellFormed.{HasCondition}
use Rattle.asm_text.specs.declared.operation.TheConstants.{ALL_OPS, OPERATIONS}
use Rattle.asm_text.specs.Operations.{is_operation, number_of_operation}

-- how many have no condition
abbrev unconditional : ℕ
unconditional = number_of_operation (Cmov 0)

-- the operation of a condition, by the place among the three
abbrev conditional_at : ℕ → ℕ → Op
conditional_at zero condition = Cmov condition
conditional_at (suc zero) condition = Set condition
conditional_at (suc (suc place)) condition = J condition

-- the operation of a number
abbrev operation_at : ℕ → Op
operation_at number =
    cond (nat_lt number unconditional) (get_or ALL_OPS number Nop)
    (conditional_at ((number - unconditional) % 3) ((number - unconditional) / 3))

-- the operation of a condition has its place among three, past those without
conditional : (place condition : ℕ) → place < 3 → operation_at (unconditional + place + 3 * condition) ≡ conditional_at place condition
conditional place condition small =
    let number : ℕ = unconditional + place + 3 * condition in
    let among : (number - unconditional) % 3 ≡ place = omega arith in
    let which : (number - unconditional) / 3 ≡ condition = omega arith in
    cond-false (nat_lt number unconditional) (get_or ALL_OPS number Nop) (conditional_at ((number - unconditional) % 3) ((number - unconditional) / 3)) (le-ltb number unconditional (omega arith))
    ∙ (ap (λ p. conditional_at p ((number - unconditional) / 3)) among ∙ ap (conditional_at place) which)

pub at_number : (op : Op) → operation_at (number_of_operation op) ≡ op
at_number (Cmov condition) = conditional 0 condition (omega arith)
at_number (Set condition) = conditional 1 condition (omega arith)
at_number (J condition) = conditional 2 condition (omega arith)
at_number _ = refl

-- no two operations have one number
pub one_number : (op other : Op) → number_of_operation op ≡ number_of_operation other → op ≡ other
one_number op other same = sym (at_number op) ∙ (ap operation_at same ∙ at_number other)

pub operation_is : (op other : Op) → is_operation op other ≡ true → op ≡ other
operation_is op other same = one_number op other (eqb-true (number_of_operation op) (number_of_operation other) same)

pub operation_same : (op other : Op) → op ≡ other → is_operation op other ≡ true
operation_same op other same = eq-eqb (number_of_operation op) (number_of_operation other) (ap number_of_operation same)

abbrev is_listed : ℕ → Bool
is_listed number = is_operation (get_or ALL_OPS number Nop) (operation_at number)

all_listed : agree_below is_listed (λ number. true) OPERATIONS ≡ true
all_listed = refl

-- the row has at each of its places the operation of that number
pub listed_at : (number : ℕ) → number < OPERATIONS → get_or ALL_OPS number Nop ≡ operation_at number
listed_at number small =
    operation_is (get_or ALL_OPS number Nop) (operation_at number) (agree_below_at is_listed (λ n. true) OPERATIONS number all_listed small)

-- an operation whose condition is one of sixteen has a place in the row
pub number_small : (op : Op) → HasCondition op → number_of_operation op < OPERATIONS
number_small (Cmov condition) has = omega arith
number_small (Set condition) has = omega arith
number_small (J condition) has = omega arith
number_small _ has = omega arith

pub listed : (op : Op) → HasCondition op → get_or ALL_OPS (number_of_operation op) Nop ≡ op
listed op has = listed_at (number_of_operation op) (number_small op has) ∙ at_number op
