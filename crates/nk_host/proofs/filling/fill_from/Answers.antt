use Rattle.nk_host.proofs.InReads.{stands_behind}
use Rattle.nk_host.proofs.filling.fill_from.Goals as goal

pub returns-clause-stands : goal.returns-clause-stands
returns-clause-stands g c = stands_behind _ _ _ _ _ _ _ _ c.in_ok-stand_at.ensures.there c.in_ok-fill.ensures.given c.checked_add.ensures
