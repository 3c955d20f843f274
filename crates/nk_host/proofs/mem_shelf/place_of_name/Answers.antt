use Rattle.std.proofs.Common.{sym, ◌∙◌}
use Rattle.nk_host.proofs.Places.{position-map}
use Rattle.nk_host.proofs.mem_shelf.place_of_name.Goals as goal

pub returns : goal.returns
returns c = c.first_place.ensures ∙ sym (position-map _ _ c.args.held.now)
