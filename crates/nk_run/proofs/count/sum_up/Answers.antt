use Rattle.std.proofs.Common.{◌≡◌, ◌++◌, append_assoc, ap, subst, ◌∙◌}
use Rattle.nk_host.specs.Taken.{AppendsPrefix}
use Rattle.nk_host.specs.TextPuts.{IsTextPut}
use Rattle.gate_state.specs.MachineOf.{whole_of}
use Rattle.gate_state.specs.MachineStates.{MachineState, nested_of}
use Rattle.nk_body.specs.NestedRecord.{nested_in}
use Rattle.report_text.specs.RunLines.{ending_line, turns_line}
use Rattle.report_text.specs.RunSummary.{summary_lines}
use Rattle.nk_run.specs.RunStates.{is_halted}
use Rattle.nk_run.specs.WorkSummary.{summary_of}
use Rattle.nk_run.proofs.Texts.{prefix_of_both, went_on}
use Rattle.nk_run.proofs.count.sum_up.Goals as goal

pub returns-in-Ok : goal.returns-in-Ok
returns-in-Ok g c =
    let s : MachineState = (whole_of c.args.machine).state in
    let why = ending_line (is_halted c.args.reason) in
    let turns = turns_line s.turns in
    let rest = summary_lines (summary_of c.args.tally.now (nested_of s)) in
    let end = c.finish-finished.ensures in
    let counts : c.summed-counts.result ≡ summary_of c.args.tally.now (nested_of s) =
    c.summed-counts.ensures
    ∙ (λ i. summary_of c.args.tally.now (nested_in (end.kinds i) (end.root i) (end.ledger i) (end.memory i))) in
    let same = ap (λ halted. ending_line halted ++ turns_line c.turns-turns.result) c.is_halted.ensures
    ∙ ap (λ n. why ++ turns_line n) c.turns-turns.ensures in
    subst (λ l. IsTextPut g.O.Sink.taken g.O.Sink.faults c.args.sink.now c.put_counts.new.sink l c.put_counts.result)
    (append_assoc why turns rest)
    (went_on g.O.Sink.taken g.O.Sink.faults c.args.sink.now c.ending.new.sink c.put_counts.new.sink _ (why ++ turns) rest
    _ same c.ending.ensures.never_falls c.in-Ok.ensures.all
    (subst (λ it. IsTextPut g.O.Sink.taken g.O.Sink.faults c.ending.new.sink c.put_counts.new.sink (summary_lines it) c.put_counts.result)
    counts c.put_counts.ensures))

pub returns : goal.returns
returns g c =
    let s : MachineState = (whole_of c.args.machine).state in
    let why = ending_line (is_halted c.args.reason) in
    let turns = turns_line s.turns in
    let rest = summary_lines (summary_of c.args.tally.now (nested_of s)) in
    let same = ap (λ halted. ending_line halted ++ turns_line c.turns-turns.result) c.is_halted.ensures
    ∙ ap (λ n. why ++ turns_line n) c.turns-turns.ensures in
    let before = g.O.Sink.taken c.args.sink.now in
    let after = g.O.Sink.taken c.ending.new.sink in
    record {
      never_falls = c.in-Err.ensures.never_falls;
      failed = c.in-Err.ensures.failed;
      all = tt;
      some = subst (AppendsPrefix before after) (append_assoc why turns rest)
          (prefix_of_both before after (why ++ turns) rest (subst (AppendsPrefix before after) same c.in-Err.ensures.some));
    }
