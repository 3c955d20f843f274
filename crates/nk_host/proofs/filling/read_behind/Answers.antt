use Rattle.std.proofs.Common.{arith}
use Rattle.nk_host.proofs.InReads.{read_behind}
use Rattle.nk_host.proofs.filling.read_behind.Goals as goal

pub returns-clause-given : goal.returns-clause-given
returns-clause-given g c =
    let got = c.read_some.ensures in
    read_behind _ _ _ _ _ _ _ (omega arith) got.some got.bound got.given
