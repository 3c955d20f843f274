-- The registers of a state, as a debugger is told them: bytes of two hexadecimal digits, a number's least significant first,
-- in the order of the description. Of what this processor doesn't have each digit is an x.
use Rattle.std.specs.Prelude.{ℕ, ◌*◌, List, ◌++◌, codes, slice_index}
use Rattle.std.specs.Int.{bytes_low_first}
use Rattle.hex.specs.Hex.{encode_lower}
use Rattle.x86_regs.specs.declared.registers.Regs.{Regs}
use Rattle.nk_bits.specs.declared.control.Control.{Control}
use Rattle.trap_unit.specs.TrapDelivery.{cs_of}
use Rattle.gate_state.specs.MachineStates.{MachineState}

-- a number of so many bytes
abbrev pub number_text : ℕ → ℕ → List ℕ
number_text width n = encode_lower (bytes_low_first 0 width n)

-- RAX, RBX, RCX, RDX, RSI, RDI, RBP, RSP and R8 to R15, by number
unfoldable pub four_text : List ℕ → ℕ → ℕ → ℕ → ℕ → List ℕ
four_text general a b c d =
    number_text 8 (slice_index general a) ++ (number_text 8 (slice_index general b)
    ++ (number_text 8 (slice_index general c) ++ number_text 8 (slice_index general d)))

abbrev pub general_text : List ℕ → List ℕ
general_text general =
    four_text general 0 3 1 2 ++ (four_text general 6 7 5 4 ++ (four_text general 8 9 10 11 ++ four_text general 12 13 14 15))

-- bytes that there aren't: sixteen of DS, ES, FS and GS, eighty of the eight registers of the floating-point unit, and
-- thirty-two of its eight registers of control; each digit is an x
abbrev pub untold_16 : List ℕ
untold_16 = codes "xxxxxxxxxxxxxxxxxxxxxxxxxxxxxxxx"

abbrev pub untold_text : List ℕ
untold_text =
    untold_16 ++ (untold_16 ++ (untold_16 ++ (untold_16 ++ (untold_16 ++ (untold_16 ++ (untold_16 ++ untold_16))))))

-- RIP, EFLAGS, CS and SS, and what there isn't
abbrev pub stand_bytes : Regs → List ℕ
stand_bytes regs =
    number_text 8 regs.rip ++ (number_text 4 regs.flags ++ (number_text 4 (cs_of regs.cpl) ++ (number_text 4 regs.ss
    ++ untold_text)))

-- CR0, CR2, CR3, CR4 and the CPL; then how many turns and steps were taken
abbrev pub control_bytes : Control → ℕ → List ℕ
control_bytes control cpl =
    number_text 8 control.cr0 ++ (number_text 8 control.cr2 ++ (number_text 8 (4096 * control.root)
    ++ (number_text 8 control.cr4 ++ number_text 8 cpl)))

abbrev pub register_bytes : MachineState → ℕ → List ℕ
register_bytes s steps =
    general_text s.processor.regs.general ++ (stand_bytes s.processor.regs
    ++ (control_bytes s.processor.control s.processor.regs.cpl ++ (number_text 8 s.turns ++ number_text 8 steps)))
