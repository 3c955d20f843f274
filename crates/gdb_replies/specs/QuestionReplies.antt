-- The reply to a question at a moment of a run, with what a debugger catches and why it stopped last.
use Rattle.std.specs.Prelude.{ℕ, true, ◌&&◌, nat_le, if◌then◌else◌, List, [], codes}
use Rattle.hex.specs.Hex.{encode_lower}
use Rattle.gate_state.specs.MachineStates.{nested_of}
use Rattle.report_text.specs.ClosingSection.{section}
use Rattle.step_trace.specs.StepTexts.{state_text}
use Rattle.step_trace.specs.Traces.{kept_shown}
use Rattle.gdb_questions.specs.declared.order.Order.{Order}
use Rattle.gdb_questions.specs.declared.order.Order.TheVariants as order
use Rattle.gdb_questions.specs.declared.question.Question.{Question}
use Rattle.gdb_questions.specs.declared.question.Question.TheVariants as question
use Rattle.run_moments.specs.declared.stops.Catches.{Catches}
use Rattle.run_moments.specs.declared.stops.Stop.{Stop}
use Rattle.run_moments.specs.Moments.{MomentOf, state_at}
use Rattle.gdb_replies.specs.Descriptions.{description_text, features_text}
use Rattle.gdb_replies.specs.RegisterTexts.{register_bytes}
use Rattle.gdb_replies.specs.ReplyTexts.{catches_line, help_text, memory_reply, piece_text, place_line, stop_text}

-- the text that an order is answered with
abbrev pub order_answer : MomentOf → Catches → Order → List ℕ
order_answer m catches order.Turn = place_line (state_at m.run m.steps).turns m.steps
order_answer m catches (order.GoToTurn turns) = place_line (state_at m.run m.steps).turns m.steps
order_answer m catches (order.GoToStep steps) = place_line (state_at m.run m.steps).turns m.steps
order_answer m catches order.State = state_text (state_at m.run m.steps).turns (state_at m.run m.steps).processor
order_answer m catches order.Kept = kept_shown true (state_at m.run m.steps).processor.tlb
order_answer m catches order.Section =
    section m.run.opening.image m.run.opening.frames (nested_of (state_at m.run m.steps))
order_answer m catches (order.Catch kind) = catches_line catches
order_answer m catches order.CatchNone = catches_line catches
order_answer m catches _ = help_text

-- a watchpoint sees one byte to eight
abbrev pub watched_text : ℕ → List ℕ
watched_text count = if nat_le 1 count && nat_le count 8 then codes "OK" else codes "E22"

-- what is answered beside that: about threads, of which there is one, about the debugger's own matters, and where nothing
-- is asked that is served
abbrev pub fixed_text : Question → List ℕ
fixed_text question.Features = features_text
fixed_text question.Attached = codes "1"
fixed_text question.CurrentThread = codes "QC1"
fixed_text question.Threads = codes "m1"
fixed_text question.MoreThreads = codes "l"
fixed_text (question.SetBreak address) = codes "OK"
fixed_text (question.ClearBreak address) = codes "OK"
fixed_text (question.ClearWatch address count) = codes "OK"
fixed_text question.ChooseThread = codes "OK"
fixed_text question.Detach = codes "OK"
fixed_text question.Change = codes "E.nothing of a run can be changed: its files make it"
fixed_text _ = []

abbrev pub reply_text : MomentOf → Catches → Stop → Question → List ℕ
reply_text m catches why question.Registers = register_bytes (state_at m.run m.steps) m.steps
reply_text m catches why (question.Memory address count) = memory_reply (state_at m.run m.steps) address count
reply_text m catches why question.Halt = stop_text why
reply_text m catches why question.StepOn = stop_text why
reply_text m catches why question.GoOn = stop_text why
reply_text m catches why question.StepBack = stop_text why
reply_text m catches why question.GoBack = stop_text why
reply_text m catches why (question.Description offset count) = piece_text description_text offset count
reply_text m catches why (question.SetWatch address count) = watched_text count
reply_text m catches why (question.Monitor it) = encode_lower (order_answer m catches it)
reply_text m catches why it = fixed_text it
