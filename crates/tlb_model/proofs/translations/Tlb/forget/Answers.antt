use Rattle.tlb_model.proofs.Bounds.{pairs_bound}
use Rattle.tlb_model.proofs.translations.Tlb.forget.Goals as goal

pub returns-clause-bound : goal.returns-clause-bound
returns-clause-bound c = pairs_bound c.self.inside.table.value c.self.invariant.0
