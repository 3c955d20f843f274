-- Lines of a trace at worked values, byte for byte, and wrong ones.
use Rattle.std.proofs.Common.{◌≡◌, ◌≢◌, ℕ, true, false, List, [], ◌∷◌, ◌++◌, None, Some, refl, sym, ap, ◌∙◌, codes, arith}
use Rattle.std.specs.Fmt.{char_count, digits, padded_integral}
use Rattle.hex.specs.Hex.{encode_with}
use Rattle.nk_bits.specs.declared.leaf.Rights.{Rights}
use Rattle.report_text.specs.RunLines.{hex_16, turns_line}
use Rattle.step_trace.specs.declared.ends.TraceEnd.TheVariants as end
use Rattle.step_trace.specs.StepChanges.{Answered, Console, ControlRegister, Delivered, Dropped, Filled, Flag, Flushed, General, Halted, Privilege, Rip, Stack, Stored}
use Rattle.step_trace.specs.StepLines.{AtBody, Code, InGates, InOuter, StepLine, Vector}
use Rattle.step_trace.specs.StepTexts.{answer_text, change_text, delivery_text, fill_text, flag_names, frame_text, hex_4, line_text, page_code_text, register_names, rule_names, value_text, vector_name, vector_names}
use Rattle.step_trace.specs.Traces.{ending_text}

-- the delivery of a vector that was pending, and three changes
abbrev line : StepLine
line = record {
  turns = 12;
  stand = InOuter;
  cpl = 3;
  rip = 4096;
  was = Vector 33;
  changes = General 0 7 ∷ Flag 0 true ∷ Stored 8192 (1 ∷ 171 ∷ []) ∷ [];
}

whole_line : line_text line
    ≡ codes "12 outer 3 0000000000001000 - interrupt 33; rax 0000000000000007; cf 1; mem 0000000000002000 01ab\n"
unfolding line_text register_names flag_names hex_16 padded_integral char_count digits encode_with
whole_line = refl

-- code that can't be read whole, at the body's place
short_code : line_text (record { turns = 0; stand = AtBody; cpl = 0; rip = 0; was = Code (15 ∷ []) None; changes = [] })
    ≡ codes "0 nested 0 0000000000000000 0f none\n"
unfolding line_text hex_16 padded_integral char_count digits encode_with
short_code = refl

no_code : line_text (record { turns = 0; stand = InGates; cpl = 0; rip = 0; was = Code [] None; changes = Halted ∷ [] })
    ≡ codes "0 gate 0 0000000000000000 - none; halted\n"
unfolding line_text hex_16 padded_integral char_count digits encode_with
no_code = refl

-- each kind of change
abbrev rights : Rights
rights = record { can_write = true; user = false; exec = false }

rip_text : change_text (Rip 16) ≡ codes "; rip 0000000000000010"
unfolding hex_16 padded_integral char_count digits
rip_text = refl

cpl_text : change_text (Privilege 3) ≡ codes "; cpl 3"
unfolding digits
cpl_text = refl

ss_text : change_text (Stack 27) ≡ codes "; ss 001b"
unfolding hex_4 hex_16 padded_integral char_count digits
ss_text = refl

cr3_text : change_text (ControlRegister 3 20480) ≡ codes "; cr3 0000000000005000"
unfolding hex_16 padded_integral char_count digits
cr3_text = refl

filled_text : change_text (Filled 3 (record { frame = 9; rights = rights })) ≡ codes "; fill 0000000000003000 frame 9 rw--"
unfolding fill_text hex_16 padded_integral char_count digits
filled_text = refl

dropped_text : change_text (Dropped 3) ≡ codes "; drop 0000000000003000"
unfolding hex_16 padded_integral char_count digits
dropped_text = refl

flushed_text : change_text Flushed ≡ codes "; flush"
flushed_text = refl

console_text : change_text (Console 65) ≡ codes "; console 41"
unfolding encode_with
console_text = refl

fault_text : change_text (Delivered (record { vector = 14; code = Some 2; cr2 = Some 4096; rip = 0 }))
    ≡ codes "; deliver 14 #PF code 2 (absent write supervisor data) cr2 0000000000001000"
unfolding delivery_text vector_name vector_names page_code_text hex_16 padded_integral char_count digits
fault_text = refl

refused_text : change_text (Answered (record { value = 1; place = None; flush = false })) ≡ codes "; refused 1 BadCall"
unfolding answer_text value_text rule_names digits
refused_text = refl

accepted_text : change_text (Answered (record { value = 256; place = Some 4096; flush = false }))
    ≡ codes "; accepted 256; place 0000000000001000"
unfolding answer_text value_text hex_16 padded_integral char_count digits
accepted_text = refl

-- a frame of zeros has no line, and the last lines
zeros : frame_text 5 (0 ∷ 0 ∷ []) ≡ []
zeros = refl

frame : frame_text 5 (0 ∷ 1 ∷ []) ≡ codes "frame 5 0001\n"
unfolding digits encode_with
frame = refl

last_lines : ending_text (Some end.Until) 12 ≡ codes "end until\nturns 12\n"
unfolding turns_line digits
last_lines = refl

-- lines of turns 3 and 4 that are exchanged are another text, whatever stands in them
abbrev first_byte : List ℕ → ℕ
first_byte [] = 0
first_byte (byte ∷ bytes) = byte

module _ (three four : StepLine) (is_three : three.turns ≡ 3) (is_four : four.turns ≡ 4) where
  begins_by_three : first_byte (line_text three ++ line_text four) ≡ 51
  unfolding line_text digits
  begins_by_three = rw is_three

  begins_by_four : first_byte (line_text four ++ line_text three) ≡ 52
  unfolding line_text digits
  begins_by_four = rw is_four

  exchanged_texts : line_text three ++ line_text four ≢ line_text four ++ line_text three
  exchanged_texts same = let one : 51 ≡ 52 = sym begins_by_three ∙ (ap first_byte same ∙ begins_by_four) in absurd (omega (arith, one))
