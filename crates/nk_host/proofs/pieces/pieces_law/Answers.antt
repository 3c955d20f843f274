use Rattle.nk_host.proofs.MovedOut.{moved_all, moved_cut, moved_none, moved_on, prefix_longer}
use Rattle.nk_host.proofs.pieces.pieces_law.Goals as goal

pub returns : goal.returns
returns c = record {
  moved_none = moved_none;
  moved_on = moved_on;
  moved_cut = moved_cut;
  moved_all = moved_all;
  prefix_longer = prefix_longer;
}
