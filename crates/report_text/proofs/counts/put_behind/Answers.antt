use Rattle.std.proofs.Common.{refl, subst}
use Rattle.std.specs.Prelude.{Result}
use Rattle.nk_host.specs.TextPuts.{IsTextPut}
use Rattle.report_text.proofs.Texts.{both_cut, both_put}
use Rattle.report_text.proofs.counts.put_behind.Goals as goal

pub returns-in-Ok : goal.returns-in-Ok
returns-in-Ok g c = λ begun text before.
    both_put g.O.Sink.taken g.O.Sink.faults c.put_all.result begun c.args.sink.now _ text text _ _ refl refl
    (subst (λ (r : Result _ _). IsTextPut g.O.Sink.taken g.O.Sink.faults begun c.args.sink.now text r) c.in-Ok.is before)
    c.put_all.ensures.put

pub returns-in-Err : goal.returns-in-Err
returns-in-Err g c = λ begun text before.
    both_cut g.O.Sink.taken g.O.Sink.faults begun c.args.sink.now text text _ refl
    (subst (λ (r : Result _ _). IsTextPut g.O.Sink.taken g.O.Sink.faults begun c.args.sink.now text r) c.in-Err.is before)
