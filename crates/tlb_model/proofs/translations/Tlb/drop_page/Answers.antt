use Rattle.tlb_model.proofs.Bounds.{pairs_bound}
use Rattle.tlb_model.proofs.translations.Tlb.drop_page.Goals as goal

pub returns-clause-bound : goal.returns-clause-bound
returns-clause-bound c = pairs_bound c.drop_page.new.self c.drop_page.ensures.table
