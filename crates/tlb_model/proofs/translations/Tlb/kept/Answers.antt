use Rattle.std.proofs.Common.{◌≤◌, length, subst}
use Rattle.nk_bits.specs.Translations.{Translations, capacity}
use Rattle.tlb_model.proofs.Bounds.{pairs_bound}
use Rattle.tlb_model.proofs.translations.Tlb.kept.Goals as goal

pub returns-clause-bound : goal.returns-clause-bound
returns-clause-bound c = subst (λ (t : Translations). length t.pairs ≤ capacity) c.self.view_is (pairs_bound c.self.inside.table.value c.self.invariant.0)
