-- The tests of sameness say that two are the same, and hold of one and itself.
use Rattle.std.proofs.Common.{◌≡◌, ℕ, Bool, true, false, ◌&&◌, nat_eq, Option, Some, None, refl, ap, ◌∙◌}
use Rattle.std.proofs.lemmas.Bool.{and_from, and_parts, eq-eqb, eqb-true}
use Rattle.decode_fields.specs.declared.parts.Rep.{Rep}
use Rattle.decode_fields.specs.declared.parts.Rep.TheVariants.{No, WhileEqual, WhileNot}
use Rattle.decode_fields.specs.declared.place.Address.{Address}
use Rattle.decode_fields.specs.declared.place.Place.{Place}
use Rattle.decode_fields.specs.declared.place.Place.TheVariants.{Nothing, Reg, High, Mem, Value}
use Rattle.x86_decode.specs.declared.instruction.Instr.{Instr}
use Rattle.x86_decode.specs.declared.operation.Op.{Op}
use Rattle.asm_text.specs.Operations.{is_operation}
use Rattle.asm_text.specs.Sameness.{is_address, is_flag, is_instr, is_number, is_place, is_rep}
use Rattle.asm_text.proofs.OperationLemmas.{operation_is, operation_same}

pub flag_is : (flag other : Bool) → is_flag flag other ≡ true → flag ≡ other
flag_is true true h = refl
flag_is true false h = absurd (cc)
flag_is false true h = absurd (cc)
flag_is false false h = refl

flag_same : (flag : Bool) → is_flag flag flag ≡ true
flag_same true = refl
flag_same false = refl

pub rep_is : (rep other : Rep) → is_rep rep other ≡ true → rep ≡ other
rep_is No No h = refl
rep_is No WhileEqual h = absurd (cc)
rep_is No WhileNot h = absurd (cc)
rep_is WhileEqual No h = absurd (cc)
rep_is WhileEqual WhileEqual h = refl
rep_is WhileEqual WhileNot h = absurd (cc)
rep_is WhileNot No h = absurd (cc)
rep_is WhileNot WhileEqual h = absurd (cc)
rep_is WhileNot WhileNot h = refl

rep_same : (rep : Rep) → is_rep rep rep ≡ true
rep_same No = refl
rep_same WhileEqual = refl
rep_same WhileNot = refl

pub number_is : (number other : Option ℕ) → is_number number other ≡ true → number ≡ other
number_is None None h = refl
number_is None (Some other) h = absurd (cc)
number_is (Some number) None h = absurd (cc)
number_is (Some number) (Some other) h = ap (λ (n : ℕ). Some n) (eqb-true number other h)

number_same : (number : Option ℕ) → is_number number number ≡ true
number_same None = refl
number_same (Some number) = eq-eqb number number refl

abbrev address_by : Option ℕ → Option ℕ → ℕ → ℕ → Bool → Address
address_by base index scale disp rip = record { base = base; index = index; scale = scale; disp = disp; rip = rip }

address_is : (address other : Address) → is_address address other ≡ true → address ≡ other
address_is address other h =
    let one : (is_number address.base other.base ≡ true) × ((is_number address.index other.index && (nat_eq address.scale other.scale && (nat_eq address.disp other.disp && is_flag address.rip other.rip))) ≡ true) = and_parts (is_number address.base other.base) (is_number address.index other.index && (nat_eq address.scale other.scale && (nat_eq address.disp other.disp && is_flag address.rip other.rip))) h in
    let two : (is_number address.index other.index ≡ true) × ((nat_eq address.scale other.scale && (nat_eq address.disp other.disp && is_flag address.rip other.rip)) ≡ true) = and_parts (is_number address.index other.index) (nat_eq address.scale other.scale && (nat_eq address.disp other.disp && is_flag address.rip other.rip)) one.1 in
    let three : (nat_eq address.scale other.scale ≡ true) × ((nat_eq address.disp other.disp && is_flag address.rip other.rip) ≡ true) = and_parts (nat_eq address.scale other.scale) (nat_eq address.disp other.disp && is_flag address.rip other.rip) two.1 in
    let four : (nat_eq address.disp other.disp ≡ true) × (is_flag address.rip other.rip ≡ true) = and_parts (nat_eq address.disp other.disp) (is_flag address.rip other.rip) three.1 in
    ap (λ b. address_by b address.index address.scale address.disp address.rip) (number_is address.base other.base one.0)
    ∙ (ap (λ i. address_by other.base i address.scale address.disp address.rip) (number_is address.index other.index two.0)
    ∙ (ap (λ s. address_by other.base other.index s address.disp address.rip) (eqb-true address.scale other.scale three.0)
    ∙ (ap (λ d. address_by other.base other.index other.scale d address.rip) (eqb-true address.disp other.disp four.0)
    ∙ ap (address_by other.base other.index other.scale other.disp) (flag_is address.rip other.rip four.1))))

address_same : (address : Address) → is_address address address ≡ true
address_same address =
    and_from _ _ (number_same address.base) (and_from _ _ (number_same address.index) (and_from _ _ (eq-eqb address.scale address.scale refl)
    (and_from _ _ (eq-eqb address.disp address.disp refl) (flag_same address.rip))))

pub place_is : (place other : Place) → is_place place other ≡ true → place ≡ other
place_is Nothing Nothing h = refl
place_is Nothing (Reg other) h = absurd (cc)
place_is Nothing (High other) h = absurd (cc)
place_is Nothing (Mem other) h = absurd (cc)
place_is Nothing Value h = absurd (cc)
place_is (Reg number) Nothing h = absurd (cc)
place_is (Reg number) (Reg other) h = ap (λ n. Reg n) (eqb-true number other h)
place_is (Reg number) (High other) h = absurd (cc)
place_is (Reg number) (Mem other) h = absurd (cc)
place_is (Reg number) Value h = absurd (cc)
place_is (High number) Nothing h = absurd (cc)
place_is (High number) (Reg other) h = absurd (cc)
place_is (High number) (High other) h = ap (λ n. High n) (eqb-true number other h)
place_is (High number) (Mem other) h = absurd (cc)
place_is (High number) Value h = absurd (cc)
place_is (Mem address) Nothing h = absurd (cc)
place_is (Mem address) (Reg other) h = absurd (cc)
place_is (Mem address) (High other) h = absurd (cc)
place_is (Mem address) (Mem other) h = ap (λ a. Mem a) (address_is address other h)
place_is (Mem address) Value h = absurd (cc)
place_is Value Nothing h = absurd (cc)
place_is Value (Reg other) h = absurd (cc)
place_is Value (High other) h = absurd (cc)
place_is Value (Mem other) h = absurd (cc)
place_is Value Value h = refl

place_same : (place : Place) → is_place place place ≡ true
place_same Nothing = refl
place_same (Reg number) = eq-eqb number number refl
place_same (High number) = eq-eqb number number refl
place_same (Mem address) = address_same address
place_same Value = refl

abbrev instr_by_parts : Op → ℕ → Place → Place → ℕ → Rep → Bool → Instr
instr_by_parts op width to from value rep lock =
    record { op = op; width = width; to = to; from = from; value = value; rep = rep; lock = lock }

-- the tests of the last parts
abbrev rest_four : Instr → Instr → Bool
rest_four instr other = nat_eq instr.value other.value && (is_rep instr.rep other.rep && is_flag instr.lock other.lock)

abbrev rest_two : Instr → Instr → Bool
rest_two instr other = is_place instr.to other.to && (is_place instr.from other.from && rest_four instr other)

pub instr_is : (instr other : Instr) → is_instr instr other ≡ true → instr ≡ other
instr_is instr other h =
    let one : (is_operation instr.op other.op ≡ true) × ((nat_eq instr.width other.width && rest_two instr other) ≡ true) = and_parts (is_operation instr.op other.op) (nat_eq instr.width other.width && rest_two instr other) h in
    let two : (nat_eq instr.width other.width ≡ true) × (rest_two instr other ≡ true) = and_parts (nat_eq instr.width other.width) (rest_two instr other) one.1 in
    let three : (is_place instr.to other.to ≡ true) × ((is_place instr.from other.from && rest_four instr other) ≡ true) = and_parts (is_place instr.to other.to) (is_place instr.from other.from && rest_four instr other) two.1 in
    let four : (is_place instr.from other.from ≡ true) × (rest_four instr other ≡ true) = and_parts (is_place instr.from other.from) (rest_four instr other) three.1 in
    let five : (nat_eq instr.value other.value ≡ true) × ((is_rep instr.rep other.rep && is_flag instr.lock other.lock) ≡ true) = and_parts (nat_eq instr.value other.value) (is_rep instr.rep other.rep && is_flag instr.lock other.lock) four.1 in
    let six : (is_rep instr.rep other.rep ≡ true) × (is_flag instr.lock other.lock ≡ true) = and_parts (is_rep instr.rep other.rep) (is_flag instr.lock other.lock) five.1 in
    ap (λ o. instr_by_parts o instr.width instr.to instr.from instr.value instr.rep instr.lock) (operation_is instr.op other.op one.0)
    ∙ (ap (λ w. instr_by_parts other.op w instr.to instr.from instr.value instr.rep instr.lock) (eqb-true instr.width other.width two.0)
    ∙ (ap (λ p. instr_by_parts other.op other.width p instr.from instr.value instr.rep instr.lock) (place_is instr.to other.to three.0)
    ∙ (ap (λ p. instr_by_parts other.op other.width other.to p instr.value instr.rep instr.lock) (place_is instr.from other.from four.0)
    ∙ (ap (λ v. instr_by_parts other.op other.width other.to other.from v instr.rep instr.lock) (eqb-true instr.value other.value five.0)
    ∙ (ap (λ r. instr_by_parts other.op other.width other.to other.from other.value r instr.lock) (rep_is instr.rep other.rep six.0)
    ∙ ap (instr_by_parts other.op other.width other.to other.from other.value other.rep) (flag_is instr.lock other.lock six.1))))))

pub instr_same : (instr : Instr) → is_instr instr instr ≡ true
instr_same instr =
    and_from _ _ (operation_same instr.op instr.op refl) (and_from _ _ (eq-eqb instr.width instr.width refl)
    (and_from _ _ (place_same instr.to) (and_from _ _ (place_same instr.from) (and_from _ _ (eq-eqb instr.value instr.value refl)
    (and_from _ _ (rep_same instr.rep) (flag_same instr.lock))))))
