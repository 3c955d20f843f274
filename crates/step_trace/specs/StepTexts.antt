-- The text of a line, and of the state that a trace begins at, byte for byte. Lists of bytes nest to the right, as a format
-- writes them.
use Rattle.std.specs.Prelude.{ℕ, zero, suc, ◌-◌, ◌*◌, ◌/◌, ◌%◌, ◌==◌, ◌&&◌, nat_le, Bool, true, false, if◌then◌else◌, List, [], ◌∷◌, ◌++◌, codes, drop, length, Option, Some, None, slice_index_or}
use Rattle.std.specs.Fmt.{decimal, digits}
use Rattle.hex.specs.Hex.{encode_lower}
use Rattle.nk_bits.specs.declared.call.Answer.{Answer}
use Rattle.nk_bits.specs.declared.call.CallWords.{CallWords}
use Rattle.nk_bits.specs.declared.call.Delivery.{Delivery}
use Rattle.nk_bits.specs.declared.control.Control.{Control}
use Rattle.nk_bits.specs.declared.leaf.Leaf.{Leaf}
use Rattle.nk_bits.specs.declared.leaf.Rights.{Rights}
use Rattle.nk_bits.specs.declared.leaf.Upper.{Upper}
use Rattle.nk_bits.specs.UpperEntries.{first_of_span}
use Rattle.asm_text.specs.InstructionTexts.{instr_text}
use Rattle.x86_decode.specs.declared.instruction.Instr.{Instr}
use Rattle.phys_mem.specs.Memory.{frame_bytes}
use Rattle.irq_plan.specs.declared.event.What.{What}
use Rattle.irq_plan.specs.declared.event.What.TheVariants as what
use Rattle.x86_regs.specs.Operands.{wrapped}
use Rattle.cpu_step.specs.Processor.{Processor}
use Rattle.nk_body.specs.declared.call.Call.{Call}
use Rattle.nk_body.specs.declared.call.Call.TheVariants as call
use Rattle.nk_body.specs.Calls.{call_of}
use Rattle.report_text.specs.RunLines.{hex_16}
use Rattle.step_trace.specs.StepChanges.{Change, Rip, General, Flag, Flags, Privilege, Stack, ControlRegister, Stored, Filled, Dropped, Kept, Forgotten, Flushed, Console, Delivered, Answered, Unread, Halted}
use Rattle.step_trace.specs.StepLines.{AtBody, Called, Code, Planned, InGates, InOuter, Stand, StepLine, Vector, Was, stand_in}

-- the names of the general registers, by their numbers
unfoldable pub register_names : List (List ℕ)
register_names =
    codes "rax" ∷ codes "rcx" ∷ codes "rdx" ∷ codes "rbx" ∷ codes "rsp" ∷ codes "rbp" ∷ codes "rsi" ∷ codes "rdi"
    ∷ codes "r8" ∷ codes "r9" ∷ codes "r10" ∷ codes "r11" ∷ codes "r12" ∷ codes "r13" ∷ codes "r14" ∷ codes "r15" ∷ []

-- the names of flags, by their places in RFLAGS
unfoldable pub flag_names : List (List ℕ)
flag_names =
    codes "cf" ∷ [] ∷ codes "pf" ∷ [] ∷ codes "af" ∷ [] ∷ codes "zf" ∷ codes "sf" ∷ [] ∷ codes "if" ∷ codes "df" ∷ codes "of" ∷ []

-- the names of vectors (SDM volume 3, table 6-1), by their numbers
unfoldable pub vector_names : List (List ℕ)
vector_names =
    codes "#DE" ∷ codes "#DB" ∷ codes "interrupt" ∷ codes "#BP" ∷ codes "#OF" ∷ codes "#BR" ∷ codes "#UD" ∷ codes "#NM"
    ∷ codes "#DF" ∷ codes "interrupt" ∷ codes "#TS" ∷ codes "#NP" ∷ codes "#SS" ∷ codes "#GP" ∷ codes "#PF" ∷ codes "interrupt"
    ∷ codes "#MF" ∷ codes "#AC" ∷ codes "#MC" ∷ codes "#XM" ∷ codes "#VE" ∷ codes "#CP" ∷ []

unfoldable pub vector_name : ℕ → List ℕ
vector_name vector = slice_index_or vector_names vector (codes "interrupt")

-- the names of the nested kernel's rules, by their numbers less 1
unfoldable pub rule_names : List (List ℕ)
rule_names =
    codes "BadCall" ∷ codes "BadFrame" ∷ codes "BadLevel" ∷ codes "NotData" ∷ codes "StillLoose" ∷ codes "NotTable"
    ∷ codes "BadIndex" ∷ codes "KernelSlot" ∷ codes "BadBits" ∷ codes "BadTarget" ∷ codes "TooFree" ∷ codes "StillLinked"
    ∷ codes "NotEmpty" ∷ codes "NotRoot" ∷ codes "BadRange" ∷ codes "BadPolicy" ∷ codes "TooManyRegions" ∷ codes "NoRoom"
    ∷ codes "BadRegion" ∷ codes "NotAllocated" ∷ codes "OutOfBounds" ∷ codes "BadSource" ∷ codes "NoWrite" ∷ codes "WrittenOnce"
    ∷ codes "NotAtEnd" ∷ codes "LogFull" ∷ codes "NotCanonical" ∷ []

-- and of its calls
abbrev pub call_name : Call → List ℕ
call_name (call.SetHandler address) = codes "set-handler"
call_name (call.DeclareTable level frame) = codes "declare-table"
call_name (call.WriteEntry table index value) = codes "write-entry"
call_name (call.RemoveTable frame) = codes "remove-table"
call_name (call.LoadRoot frame) = codes "load-root"
call_name (call.DeclarePages address size policy) = codes "declare-pages"
call_name (call.Allocate size policy) = codes "allocate"
call_name (call.Free region) = codes "free"
call_name (call.Write region offset source length) = codes "write"
call_name call.NoCall = codes "none"

-- four hexadecimal digits: the last of sixteen
unfoldable pub hex_4 : ℕ → List ℕ
hex_4 n = drop 12 (hex_16 n)

-- a flag: 0 or 1
abbrev pub flag_text : Bool → List ℕ
flag_text true = codes " 1"
flag_text false = codes " 0"

-- a letter of rights
abbrev pub letter_or_dash : Bool → List ℕ → List ℕ
letter_or_dash true letter = letter
letter_or_dash false letter = codes "-"

abbrev pub granted_text : Rights → List ℕ
granted_text rights =
    codes "r" ++ (letter_or_dash rights.can_write (codes "w") ++ (letter_or_dash rights.exec (codes "x")
    ++ letter_or_dash rights.user (codes "u")))

-- a number under its name
abbrev pub named_text : List ℕ → ℕ → List ℕ
named_text name number = name ++ (codes " " ++ hex_16 number)

-- what a page fault's error code says (SDM volume 3, 4.7), and what another's does (6.13)
abbrev pub either_text : Bool → List ℕ → List ℕ → List ℕ
either_text true so otherwise = so
either_text false so otherwise = otherwise

unfoldable pub page_code_text : ℕ → List ℕ
page_code_text code =
    either_text (code % 2 == 0) (codes " (absent ") (codes " (present ")
    ++ (either_text (code / 2 % 2 == 0) (codes "read ") (codes "write ")
    ++ (either_text (code / 4 % 2 == 0) (codes "supervisor ") (codes "user ")
    ++ either_text (code / 16 % 2 == 0) (codes "data)") (codes "fetch)")))

unfoldable pub selector_code_text : ℕ → List ℕ
selector_code_text code =
    codes " (selector " ++ (decimal (code / 8) ++ either_text (code / 2 % 2 == 0) (codes ")") (codes " idt)"))

abbrev pub code_text : ℕ → Option ℕ → List ℕ
code_text vector None = []
code_text vector (Some code) =
    codes " code " ++ (digits 16 false code
    ++ (if vector == 14 then page_code_text code else selector_code_text code))

abbrev pub cr2_text : Option ℕ → List ℕ
cr2_text None = []
cr2_text (Some cr2) = codes " cr2 " ++ hex_16 cr2

unfoldable pub delivery_text : Delivery → List ℕ
delivery_text it =
    codes "deliver " ++ (decimal it.vector ++ (codes " " ++ (vector_name it.vector
    ++ (code_text it.vector it.code ++ cr2_text it.cr2))))

-- the answer to a call: it was refused by the rule of this number, or accepted; and where a region was placed
abbrev pub placed_text : Option ℕ → List ℕ
placed_text None = []
placed_text (Some place) = codes "; place " ++ hex_16 place

unfoldable pub value_text : ℕ → List ℕ
value_text value =
    if nat_le 1 value && nat_le value 27 then codes "refused " ++ (decimal value ++ (codes " " ++ slice_index_or rule_names (value - 1) []))
    else codes "accepted " ++ decimal value

unfoldable pub answer_text : Answer → List ℕ
answer_text answer = value_text answer.value ++ placed_text answer.place

-- a translation, by the first address of its page, and an upper entry, by the first of the addresses that share it: modulo
-- 2 ^ 64, as each address is
unfoldable pub fill_text : ℕ → Leaf → List ℕ
fill_text page leaf =
    named_text (codes "fill") (wrapped (4096 * page)) ++ (codes " frame " ++ (decimal leaf.frame ++ (codes " " ++ granted_text leaf.rights)))

unfoldable pub span_text : ℕ → ℕ → List ℕ
span_text level bits = decimal level ++ (codes " " ++ hex_16 (wrapped (4096 * first_of_span level bits)))

unfoldable pub keep_text : ℕ → ℕ → Upper → List ℕ
keep_text level bits it =
    codes "keep " ++ (span_text level bits ++ (codes " frame " ++ (decimal it.frame ++ (codes " " ++ granted_text it.rights))))

-- a change
abbrev pub change_word : Change → List ℕ
change_word (Rip n) = named_text (codes "rip") n
change_word (General number value) = named_text (slice_index_or register_names number []) value
change_word (Flag place is_set) = slice_index_or flag_names place [] ++ flag_text is_set
change_word (Flags word) = named_text (codes "flags") word
change_word (Privilege cpl) = codes "cpl " ++ decimal cpl
change_word (Stack ss) = codes "ss " ++ hex_4 ss
change_word (ControlRegister number value) = named_text (codes "cr" ++ decimal number) value
change_word (Stored place bytes) = named_text (codes "mem") place ++ (codes " " ++ encode_lower bytes)
change_word (Filled page leaf) = fill_text page leaf
change_word (Dropped page) = named_text (codes "drop") (wrapped (4096 * page))
change_word (Kept level bits it) = keep_text level bits it
change_word (Forgotten level bits) = codes "forget " ++ span_text level bits
change_word Flushed = codes "flush"
change_word (Console byte) = codes "console " ++ encode_lower (byte ∷ [])
change_word (Delivered it) = delivery_text it
change_word (Answered answer) = answer_text answer
change_word Unread = codes "source unreadable"
change_word Halted = codes "halted"

abbrev pub change_text : Change → List ℕ
change_text change = codes "; " ++ change_word change

-- changes, one behind the other
abbrev pub changes_text : List Change → List ℕ
changes_text [] = []
changes_text (change ∷ changes) = change_text change ++ changes_text changes

-- where the supervisor stands
abbrev pub stand_name : Stand → List ℕ
stand_name InOuter = codes "outer"
stand_name InGates = codes "gate"
stand_name AtBody = codes "nested"

-- an event in the words of the plan
abbrev pub what_text : What → List ℕ
what_text (what.Irq vector) = codes "irq " ++ decimal vector
what_text (what.Drop page) = codes "drop " ++ hex_16 page
what_text (what.Fill page) = codes "fill " ++ hex_16 page
what_text (what.Keep level page) = codes "keep " ++ (decimal level ++ (codes " " ++ hex_16 page))
what_text (what.Forget level page) = codes "forget " ++ (decimal level ++ (codes " " ++ hex_16 page))

-- a call with its arguments
unfoldable pub call_text : CallWords → List ℕ
call_text it =
    codes " - call " ++ (decimal it.number ++ (codes " " ++ (call_name (call_of it) ++ (codes " a " ++ (hex_16 it.a ++ (codes " b "
    ++ (hex_16 it.b ++ (codes " c " ++ (hex_16 it.c ++ (codes " d " ++ hex_16 it.d))))))))))

-- the bytes of an instruction, and its text
abbrev pub bytes_text : List ℕ → List ℕ
bytes_text [] = codes "-"
bytes_text (byte ∷ bytes) = encode_lower (byte ∷ bytes)

abbrev pub instruction_text : Option Instr → List ℕ
instruction_text None = codes "none"
instruction_text (Some instr) = instr_text instr

abbrev pub was_text : Was → List ℕ
was_text (Planned what) = codes " - event " ++ what_text what
was_text (Called call) = call_text call
was_text (Vector vector) = codes " - interrupt " ++ decimal vector
was_text (Code bytes instr) = codes " " ++ (bytes_text bytes ++ (codes " " ++ instruction_text instr))

-- N STATE C ADDR, what the step was, and its changes
unfoldable pub line_text : StepLine → List ℕ
line_text line =
    decimal line.turns ++ (codes " " ++ (stand_name line.stand ++ (codes " " ++ (decimal line.cpl ++ (codes " " ++ (hex_16 line.rip
    ++ (was_text line.was ++ (changes_text line.changes ++ codes "\n"))))))))

-- registers under their names
abbrev pub registers_text : List (List ℕ) → List ℕ → List ℕ
registers_text (name ∷ names) (value ∷ values) = codes " " ++ (named_text name value ++ registers_text names values)
registers_text _ _ = []

abbrev pub control_text : Control → List ℕ
control_text control =
    codes " " ++ (named_text (codes "cr0") control.cr0 ++ (codes " " ++ (named_text (codes "cr2") control.cr2
    ++ (codes " " ++ (named_text (codes "cr3") (4096 * control.root) ++ (codes " " ++ named_text (codes "cr4") control.cr4))))))

-- the state before the first step: the turns that were taken, where the supervisor stands, the registers, and what waits
unfoldable pub state_text : ℕ → Processor → List ℕ
state_text turns p =
    codes "state turn " ++ (decimal turns ++ (codes " " ++ (stand_name (stand_in p) ++ (codes " cpl " ++ (decimal p.regs.cpl
    ++ (codes " " ++ (named_text (codes "rip") p.regs.rip ++ (codes " " ++ (named_text (codes "flags") p.regs.flags
    ++ (registers_text register_names p.regs.general ++ (codes " ss " ++ (hex_4 p.regs.ss ++ (control_text p.control
    ++ (codes " pending " ++ (hex_4 p.pending ++ (codes " shielded" ++ (flag_text p.shielded
    ++ (codes " halted" ++ (flag_text p.halted ++ codes "\n")))))))))))))))))))

-- memory: each of so many frames, from this one on, that isn't all zeros
abbrev pub are_zeros : List ℕ → Bool
are_zeros [] = true
are_zeros (byte ∷ bytes) = byte == 0 && are_zeros bytes

abbrev pub frame_text : ℕ → List ℕ → List ℕ
frame_text frame bytes =
    if are_zeros bytes then [] else codes "frame " ++ (decimal frame ++ (codes " " ++ (encode_lower bytes ++ codes "\n")))

abbrev pub frames_text : ℕ → ℕ → List ℕ → List ℕ
frames_text zero frame m = []
frames_text (suc n) frame m = frame_text frame (frame_bytes m frame) ++ frames_text n (suc frame) m

abbrev pub memory_text : List ℕ → List ℕ
memory_text m = frames_text (length m / 4096) 0 m
