use Rattle.nk_body.proofs.HeldBooks.{held_still}
use Rattle.nk_body.proofs.laws.held_law.Goals as goal

pub returns : goal.returns
returns c = record {
  stays = held_still c.stored_law.ensures (record { regions = c.held_regions_law.ensures; log = c.held_log_law.ensures });
}
