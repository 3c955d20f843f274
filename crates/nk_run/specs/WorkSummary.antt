-- What the command `work` tells of a run: why it ended, how many turns it took, and counts in place of its lines.
use Rattle.std.specs.Prelude.{ℕ, zero, suc, ◌+◌, ◌==◌, ◌||◌, nat_le, Bool, if◌then◌else◌, List, ◌++◌, filter, length}
use Rattle.nk_bits.specs.declared.call.Answer.{Answer}
use Rattle.irq_plan.specs.declared.event.Event.{Event}
use Rattle.page_desc.specs.PageTables.{is_table}
use Rattle.write_log.specs.LogRecords.{log_size}
use Rattle.nk_body.specs.NestedRecord.{Nested}
use Rattle.gate_state.specs.declared.moves.Move.{Move}
use Rattle.gate_state.specs.declared.moves.Move.TheVariants as move
use Rattle.gate_state.specs.declared.seen.Seen.{Seen}
use Rattle.gate_state.specs.declared.seen.Seen.TheVariants as seen
use Rattle.gate_state.specs.MachineStates.{MachineState, nested_of}
use Rattle.gate_state.specs.MachineSteps.{answer_in, move_of, next, seen_by, state}
use Rattle.report_text.specs.RunLines.{turns_line}
use Rattle.report_text.specs.RunSummary.{summary_lines}
use Rattle.report_text.specs.declared.counts.RunCounts.{RunCounts}
use Rattle.nk_run.specs.declared.count.Tally.{Tally}
use Rattle.nk_run.specs.RunStates.{ended, ending_at, run_length}

-- an answer that isn't the number of a rule: 0, or the identifier of a region
abbrev pub is_accepted : Answer → Bool
is_accepted answer = answer.value == 0 || nat_le 256 answer.value

abbrev pub with_answer : Answer → Tally → Tally
with_answer answer t = record t { calls = t.calls + 1; accepted = if is_accepted answer then t.accepted + 1 else t.accepted }

abbrev pub with_shown : Seen → Tally → Tally
with_shown (seen.Delivered it) t = record t { deliveries = t.deliveries + 1 }
with_shown _ t = t

-- one step more
abbrev pub with_step : Move → MachineState → Tally → Tally
with_step move.Serve s t = with_answer (answer_in s) t
with_step (move.Take what) s t = with_shown (seen_by (move.Take what) s) t
with_step move.Turn s t = with_shown (seen_by move.Turn s) t
with_step move.Rest s t = t

-- and the first n steps from a state on
unfoldable pub tally : ℕ → List Event → MachineState → Tally → Tally
tally zero plan s t = t
tally (suc n) plan s t = tally n plan (next plan s) (with_step (move_of plan s) s t)

abbrev pub nothing_yet : Tally
nothing_yet = record { calls = 0; accepted = 0; deliveries = 0 }

-- the counts, with those of the record in the end: page tables, live regions, records of the log and the bytes that they take
abbrev pub summary_of : Tally → Nested → RunCounts
summary_of t nk = record {
  calls = t.calls;
  accepted = t.accepted;
  deliveries = t.deliveries;
  tables = length (filter is_table nk.tables.kinds);
  regions = length nk.ledger.book.regions;
  records = length nk.ledger.log;
  log_bytes = log_size nk.ledger.log;
}

-- the summary of a run from a state on, with what was counted before
unfoldable pub summary_from : ℕ → List Event → MachineState → Tally → List ℕ
summary_from steps plan s t =
    let n = run_length steps plan s in
    let last : MachineState = state plan s n in
    ended (ending_at steps plan last) ++ (turns_line last.turns ++ summary_lines (summary_of (tally n plan s t) (nested_of last)))

abbrev pub work_text : ℕ → List Event → MachineState → List ℕ
work_text steps plan s = summary_from steps plan s nothing_yet
