use Rattle.std.proofs.Common.{rules}
use Rattle.std.proofs.lemmas.Fn.{filter_same}
use Rattle.tlb_model.proofs.entries.remove_entry.Goals as goal

pub returns-clause-without : goal.returns-clause-without
returns-clause-without c = filter_same _ _ _ (λ x b f' k. search rules) _ _ c.retain.ensures.filtered
