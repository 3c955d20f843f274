use Rattle.tlb_model.proofs.Bounds.{pairs_bound}
use Rattle.tlb_model.proofs.translations.Tlb.fill.Goals as goal

pub returns-clause-bound : goal.returns-clause-bound
returns-clause-bound c = pairs_bound c.fill.new.self c.fill.ensures.table
