use Rattle.std.proofs.Common.{◌++◌, ap, ◌∙◌, sym}
use Rattle.step_trace.specs.declared.asked.MemoryShown.TheVariants.{Bytes}
use Rattle.step_trace.specs.Traces.{memory_shown}
use Rattle.step_trace.proofs.TakenTexts.{so_taken}
use Rattle.step_trace.proofs.opening.put_memory_shown.Goals as goal

pub returns-in-Ok : goal.returns-in-Ok
returns-in-Ok g c =
    let m = c.args.mem.now in
    so_taken g.O.Sink.taken g.O.Sink.faults c.put_line.result c.args.sink.now c.put_line.new.sink c.deref.result.now _
    (c.deref.ensures.value ∙ c.in-Ok.ensures
    ∙ ap (λ l. l ++ memory_shown (Bytes c.in-Bytes.first c.in-Bytes.count) m) c.clear.ensures.items
    ∙ ap (λ s. memory_shown s m) (sym c.in-Bytes.is))
    c.put_line.ensures
