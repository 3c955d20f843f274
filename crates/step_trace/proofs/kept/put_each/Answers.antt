use Rattle.std.proofs.lemmas.Result.{on_ok_weaker}
use Rattle.step_trace.proofs.KeptParts.{kept_changes}
use Rattle.step_trace.proofs.kept.put_each.Goals as goal

pub returns : goal.returns
returns c =
    let before = c.args.before.now in
    let after = c.args.after.now in
    on_ok_weaker c.put_upper.result
    (kept_changes c.args.line.now.items c.put_pairs.new.line.items c.put_upper.new.line.items
    before.pairs.items after.pairs.items c.as_slice.result.now c.as_slice-2.result.now
    before.upper.items after.upper.items c.as_slice-3.result.now c.as_slice-4.result.now
    c.as_slice.ensures.value c.as_slice-2.ensures.value c.as_slice-3.ensures.value c.as_slice-4.ensures.value
    c.in_ok-put_pairs.ensures)
    c.put_upper.ensures
