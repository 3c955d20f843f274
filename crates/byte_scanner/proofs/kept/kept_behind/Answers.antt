use Rattle.std.proofs.Common.{refl}
use Rattle.byte_scanner.specs.KeptBytes.{kept_bytes}
use Rattle.byte_scanner.proofs.KeptLemmas.{last_two-is}
use Rattle.byte_scanner.proofs.kept.kept_behind.Goals as goal

pub returns-in-len2-up-clause-last : goal.returns-in-len2-up-clause-last
returns-in-len2-up-clause-last c =
    last_two-is (kept_bytes c.args.kept) c.args.piece.now _ _ c.in-len2-up.len_at_least refl refl
