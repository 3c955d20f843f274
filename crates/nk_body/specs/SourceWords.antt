-- The source of a call as the code hands it over, in the words of the calls; and the ledger as a run begins.
use Rattle.std.specs.Prelude.{[]}
use Rattle.nk_body.specs.declared.source.Source.{Source}
use Rattle.nk_body.specs.declared.source.Source.TheVariants as source
use Rattle.nk_body.specs.CallRules.{Bytes, NotTaken, Sourced, Unreadable}
use Rattle.nk_body.specs.NestedRecord.{Ledger}

abbrev pub sourced_of : Source → Sourced
sourced_of source.NotTaken = NotTaken
sourced_of source.Unreadable = Unreadable
sourced_of (source.Bytes bytes) = Bytes bytes.now

-- no region lives, and the log is empty
abbrev pub opening_ledger : Ledger
opening_ledger = record { book = record { regions = []; next = 256; declared = 0 }; log = [] }
