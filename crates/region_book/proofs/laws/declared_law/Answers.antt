use Rattle.region_book.proofs.GuardedKinds.{guarded_more, guarded_none}
use Rattle.region_book.proofs.OnceFrames.{once_by_test}
use Rattle.region_book.proofs.laws.declared_law.Goals as goal

pub returns : goal.returns
returns c = record {
  once = once_by_test;
  none = guarded_none;
  more = guarded_more;
}
