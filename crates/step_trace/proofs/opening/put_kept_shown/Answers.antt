use Rattle.std.proofs.Common.{◌++◌, Bool, true, ap, ◌∙◌, sym}
use Rattle.step_trace.specs.Traces.{kept_shown}
use Rattle.step_trace.proofs.TakenTexts.{so_taken}
use Rattle.step_trace.proofs.opening.put_kept_shown.Goals as goal

pub returns-in-Ok : goal.returns-in-Ok
returns-in-Ok g c =
    let kept = c.args.cpu.now.tlb in
    so_taken g.O.Sink.taken g.O.Sink.faults c.put_line.result c.args.sink.now c.put_line.new.sink c.deref.result.now _
    (c.deref.ensures.value ∙ c.in-Ok.ensures
    ∙ ap (λ l. l ++ kept_shown true kept) c.clear.ensures.items
    ∙ ap (λ (shown : Bool). kept_shown shown kept) (sym c.if-not-shown.false))
    c.put_line.ensures
