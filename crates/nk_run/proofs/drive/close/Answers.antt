use Rattle.std.proofs.Common.{◌++◌, append_assoc, ap, subst}
use Rattle.nk_host.specs.Taken.{AppendsPrefix}
use Rattle.nk_host.specs.TextPuts.{IsTextPut}
use Rattle.nk_body.specs.NestedRecord.{nested_held}
use Rattle.report_text.specs.ClosingSection.{section}
use Rattle.report_text.specs.RunLines.{ending_line, turns_line}
use Rattle.nk_run.specs.RunStates.{is_halted}
use Rattle.nk_run.proofs.Texts.{prefix_of_both, went_on}
use Rattle.nk_run.proofs.drive.close.Goals as goal

pub returns-in-Ok : goal.returns-in-Ok
returns-in-Ok g c =
    let why = ending_line (is_halted c.args.ending) in
    let turns = turns_line c.args.turns in
    let held = nested_held c.args.finished.now.kernel c.args.finished.now.mem in
    let rest = section c.args.opened.now.image c.args.opened.now.layout.frames held in
    subst (λ l. IsTextPut g.O.Sink.taken g.O.Sink.faults c.args.sink.now c.finish.new.sink l c.finish.result)
    (append_assoc why turns rest)
    (went_on g.O.Sink.taken g.O.Sink.faults c.args.sink.now c.ending.new.sink c.finish.new.sink _ (why ++ turns) rest
    _
    (ap (λ halted. ending_line halted ++ turns) c.is_halted.ensures) c.ending.ensures.never_falls c.in-Ok.ensures.all
    c.finish.ensures)

pub returns-in-Err : goal.returns-in-Err
returns-in-Err g c =
    let why = ending_line (is_halted c.args.ending) in
    let turns = turns_line c.args.turns in
    let held = nested_held c.args.finished.now.kernel c.args.finished.now.mem in
    let rest = section c.args.opened.now.image c.args.opened.now.layout.frames held in
    let before = g.O.Sink.taken c.args.sink.now in
    let after = g.O.Sink.taken c.ending.new.sink in
    let cut = subst (AppendsPrefix before after) (ap (λ halted. ending_line halted ++ turns) c.is_halted.ensures)
    c.in-Err.ensures.some in
    record {
      never_falls = c.in-Err.ensures.never_falls;
      failed = c.in-Err.ensures.failed;
      all = tt;
      some = subst (AppendsPrefix before after) (append_assoc why turns rest)
          (prefix_of_both before after (why ++ turns) rest cut);
    }
