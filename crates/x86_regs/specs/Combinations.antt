-- What operations make of the values of their operands, which are numbers of the width: results, flags, conditions.
use Rattle.std.specs.Prelude.{ℕ, ◌+◌, ◌-◌, ◌*◌, ◌/◌, ◌%◌, ◌^◌, Bool, true, false, not, ◌||◌, ◌&&◌, ◌==◌, if◌then◌else◌, List, [], ◌∷◌, slice_index_or, bit_and}
use Rattle.x86_decode.specs.declared.operation.Op.{Op}
use Rattle.x86_decode.specs.declared.operation.Op.TheVariants as op
use Rattle.x86_alu.specs.declared.answers.Out.{Out}
use Rattle.x86_alu.specs.declared.choices.Logic.{Logic}
use Rattle.x86_alu.specs.declared.choices.Logic.TheVariants as logic
use Rattle.x86_alu.specs.declared.choices.Shift.{Shift}
use Rattle.x86_alu.specs.declared.choices.Shift.TheVariants as shift
use Rattle.x86_alu.specs.SignedNumbers.{bit, cut, differ, one_if, sign}
use Rattle.x86_alu.specs.Flags.{carry_flag, overflow_flag, parity_flag, sign_flag, with_flag, zero_flag}
use Rattle.x86_alu.specs.Sums.{difference_flags, difference_of, sum_flags, sum_of}
use Rattle.x86_alu.specs.Bitwise.{combined, logic_flags}
use Rattle.x86_alu.specs.Shifts.{masked_count, rotate_flags, rotated, shift_flags, shifted}
use Rattle.x86_alu.specs.Products.{half_of, product, product_flags}

-- the interrupt flag and the direction flag (SDM volume 1, figure 3-8)
abbrev pub interrupt_flag : ℕ
interrupt_flag = 9

abbrev pub direction_flag : ℕ
direction_flag = 10

-- the sixteen conditions in the order of their numbers (SDM volume 1, appendix B)
abbrev pub conditions : ℕ → List Bool
conditions flags =
    let overflow : Bool = bit flags overflow_flag in
    let carry : Bool = bit flags carry_flag in
    let zero : Bool = bit flags zero_flag in
    let sign : Bool = bit flags sign_flag in
    let parity : Bool = bit flags parity_flag in
    -- O and NO; B and NB; E and NE; BE and NBE
    overflow ∷ not overflow ∷ carry ∷ not carry ∷ zero ∷ not zero ∷ (carry || zero) ∷ (not carry && not zero)
    -- S and NS; P and NP; L and NL; LE and NLE
    ∷ sign ∷ not sign ∷ parity ∷ not parity ∷ differ sign overflow ∷ not (differ sign overflow)
    ∷ (zero || differ sign overflow) ∷ (not zero && not (differ sign overflow)) ∷ []

-- the condition stands that the four low bits of this number name
unfoldable pub condition_stands : ℕ → ℕ → Bool
condition_stands condition flags = slice_index_or (conditions flags) (condition % 16) false

-- a result with its flags
abbrev pub out : ℕ → ℕ → Out
out value flags = record { value = value; flags = flags }

-- a number of w bits, extended by its sign to v bits
abbrev pub extended : ℕ → ℕ → ℕ → ℕ
extended w v n = if sign w n then n + (2 ^ v - 2 ^ w) else n

-- the bytes of a number of n bytes in the other order
unfoldable pub reversed_4 : ℕ → ℕ
reversed_4 n = n % 256 * 2 ^ 24 + n / 2 ^ 8 % 256 * 2 ^ 16 + n / 2 ^ 16 % 256 * 2 ^ 8 + n / 2 ^ 24 % 256

unfoldable pub reversed_8 : ℕ → ℕ
reversed_8 n = reversed_4 (n % 2 ^ 32) * 2 ^ 32 + reversed_4 (n / 2 ^ 32)

abbrev pub reversed : ℕ → ℕ → ℕ
reversed w n = if w == 64 then reversed_8 n else reversed_4 n

-- bit k of n set, cleared, and turned over
abbrev pub bit_set : ℕ → ℕ → ℕ
bit_set n k = with_flag k true n

abbrev pub bit_cleared : ℕ → ℕ → ℕ
bit_cleared n k = with_flag k false n

abbrev pub bit_turned : ℕ → ℕ → ℕ
bit_turned n k = with_flag k (not (bit n k)) n

-- INC and DEC keep CF
abbrev pub carry_kept : ℕ → ℕ → ℕ
carry_kept before after = with_flag carry_flag (bit before carry_flag) after

-- the sum, the difference, and the logic of two operands
abbrev pub sum : ℕ → ℕ → ℕ → Bool → ℕ → Out
sum w a b carry flags = out (sum_of w a b carry) (sum_flags w a b carry flags)

abbrev pub difference : ℕ → ℕ → ℕ → Bool → ℕ → Out
difference w a b borrow flags = out (difference_of w a b borrow) (difference_flags w a b borrow flags)

abbrev pub logical : Logic → ℕ → ℕ → ℕ → ℕ → Out
logical kind w a b flags = out (combined kind a b) (logic_flags w (combined kind a b) flags)

-- a shift and a rotation by a count that isn't masked yet
abbrev pub shift_by : Shift → ℕ → ℕ → ℕ → ℕ → Out
shift_by kind w a count flags =
    let n = masked_count w count in out (shifted kind w a n) (shift_flags kind w a n flags)

abbrev pub rotate_by : Bool → ℕ → ℕ → ℕ → ℕ → Out
rotate_by left w a count flags =
    let n = masked_count w count in
    let value = rotated left w a n in out value (rotate_flags left w value n flags)

-- the low half of a signed product
abbrev pub multiplied : ℕ → ℕ → ℕ → ℕ → Out
multiplied w a b flags = out (half_of false w (product true w a b)) (product_flags true w a b flags)

-- a bit test, and the operand that it leaves
abbrev pub bit_tested : ℕ → ℕ → ℕ → ℕ → ℕ
bit_tested w a b flags = with_flag carry_flag (bit a (b % w)) flags

-- what an operation makes of the operand a that it writes and of b, at this width; n is the instruction's number
abbrev pub combination : Op → ℕ → ℕ → ℕ → ℕ → ℕ → Out
combination op.Add w a b n flags = sum w a b false flags
combination op.Adc w a b n flags = sum w a b (bit flags carry_flag) flags
combination op.Sub w a b n flags = difference w a b false flags
combination op.Sbb w a b n flags = difference w a b (bit flags carry_flag) flags
combination op.And w a b n flags = logical logic.And w a b flags
combination op.Or w a b n flags = logical logic.Or w a b flags
combination op.Xor w a b n flags = logical logic.Xor w a b flags
combination op.Not w a b n flags = out (2 ^ w - 1 - a) flags
combination op.Neg w a b n flags = difference w 0 a false flags
combination op.Inc w a b n flags = out (sum_of w a 1 false) (carry_kept flags (sum_flags w a 1 false flags))
combination op.Dec w a b n flags = out (difference_of w a 1 false) (carry_kept flags (difference_flags w a 1 false flags))
combination op.Imul w a b n flags = multiplied w a b flags
combination op.Imul3 w a b n flags = multiplied w b (cut w n) flags
combination op.Shl w a b n flags = shift_by shift.Left w a b flags
combination op.Shr w a b n flags = shift_by shift.Right w a b flags
combination op.Sar w a b n flags = shift_by shift.Signed w a b flags
combination op.Rol w a b n flags = rotate_by true w a b flags
combination op.Ror w a b n flags = rotate_by false w a b flags
combination op.Bts w a b n flags = out (bit_set a (b % w)) (bit_tested w a b flags)
combination op.Btr w a b n flags = out (bit_cleared a (b % w)) (bit_tested w a b flags)
combination op.Btc w a b n flags = out (bit_turned a (b % w)) (bit_tested w a b flags)
combination op.Bswap w a b n flags = out (reversed w a) flags
combination (op.Cmov condition) w a b n flags = out (if condition_stands condition flags then b else a) flags
combination _ w a b n flags = out a flags

-- the flags after a comparison of a with b
abbrev pub comparison : Op → ℕ → ℕ → ℕ → ℕ → ℕ
comparison op.Cmp w a b flags = difference_flags w a b false flags
comparison op.Test w a b flags = logic_flags w (combined logic.And a b) flags
comparison op.Bt w a b flags = bit_tested w a b flags
comparison _ w a b flags = flags

-- the width of what is read, where it isn't that of the instruction: the source of an extension, the count of a shift
abbrev pub source_width : Op → ℕ → ℕ
source_width op.Movzx8 w = 8
source_width op.Movsx8 w = 8
source_width op.Movzx16 w = 16
source_width op.Movsx16 w = 16
source_width op.Movsxd w = 32
source_width op.Cbw w = 8
source_width op.Cwde w = 16
source_width op.Cdqe w = 32
source_width op.Shl w = 8
source_width op.Shr w = 8
source_width op.Sar w = 8
source_width op.Rol w = 8
source_width op.Ror w = 8
source_width _ w = w

-- what is written of the second operand b
abbrev pub movement : Op → ℕ → ℕ → ℕ → ℕ
movement op.Movsx8 w b flags = extended 8 w b
movement op.Movsx16 w b flags = extended 16 w b
movement op.Movsxd w b flags = extended 32 w b
movement (op.Set condition) w b flags = one_if (condition_stands condition flags)
movement _ w b flags = b

-- the flags that a program may load: CF, PF, AF, ZF, SF, IF, DF and OF; bit 1 reads as 1, and all others as 0
abbrev pub flags_loaded : ℕ → ℕ
flags_loaded value = bit_and value 0xED5 + 2

-- POPFQ leaves IF as it was at another CPL than 0
abbrev pub flags_popped : ℕ → ℕ → ℕ → ℕ
flags_popped cpl before value =
    if cpl == 0 then flags_loaded value else with_flag interrupt_flag (bit before interrupt_flag) (flags_loaded value)
