use Rattle.std.proofs.lemmas.List.Elements.{All-contains}
use Rattle.replay_core.proofs.GrantedLines.{accepted_journal}
use Rattle.replay_core.proofs.GrantedSizes.{LiesWithin}
use Rattle.replay_core.proofs.granting.granted_law.Goals as goal

pub returns : goal.returns
returns c = record {
  size = λ journal from id size policy words is.
      let ends = accepted_journal journal from id size policy words is in (ends.least, ends.most);
  within = λ journal from id size policy words it is there.
      let ends = accepted_journal journal from id size policy words is in
      All-contains (LiesWithin id size) _ it ends.sized.writes there;
}
