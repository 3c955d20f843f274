-- No more translations are kept than there are slots.
use Rattle.std.proofs.Common.{◌≤◌, length, arith}
use Rattle.nk_bits.specs.Translations.{capacity}
use Rattle.tlb_model.specs.declared.table.Table.{Table}
use Rattle.tlb_model.specs.TranslationTable.{IsTable, pairs_of}

pub pairs_bound : (t : Table) → IsTable t → length (pairs_of t) ≤ capacity
unfolding capacity
pairs_bound t it = omega (arith, it.listed, it.ordered.most)
