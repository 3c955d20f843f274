use Rattle.byte_scanner.proofs.EscapePlaces.{next_from, none_from}
use Rattle.byte_scanner.proofs.slice_scan.next_escape.Goals as goal

pub returns-in-Some : goal.returns-in-Some
returns-in-Some c =
    next_from c.args.bytes.now _ c.args.from c.requires c.split_at.ensures.back c.in-Some.place c.in-Some.ensures.0

pub returns-in-None : goal.returns-in-None
returns-in-None c = none_from c.args.bytes.now _ c.args.from c.requires c.split_at.ensures.back c.in-None.ensures
