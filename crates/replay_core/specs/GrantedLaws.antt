-- What the log of a replay holds of a region that a call of its journal gave: writes within the region's size.
use Rattle.std.specs.Prelude.{◌≡◌, ◌≤◌, ℕ, ◌+◌, List, Contains, length, None, Some}
use Rattle.nk_bits.specs.declared.call.CallWords.{CallWords}
use Rattle.write_log.specs.LogRecords.{LogRecord}
use Rattle.nk_body.specs.Calls.{call_of}
use Rattle.nk_body.specs.declared.call.Call.TheVariants.{Allocate}
use Rattle.nk_body.specs.SourceWords.{opening_ledger}
use Rattle.replay_core.specs.ReplayedCalls.{Replayed, replay_of}
use Rattle.replay_core.specs.GrantedCalls.{granted_of}

-- the journal is accepted, from books in which nothing was given yet, and in it an allocation of this size gave a
-- region this identifier
pub record GivesRegion (journal : List ℕ) (from : Replayed) (id size policy : ℕ) (words : CallWords) : Type 0 where
  pub opening : from.nested.ledger ≡ opening_ledger
  pub accepted : (replay_of journal from).bad ≡ None
  pub region : 256 ≤ id
  pub granted : granted_of journal id ≡ Some words
  pub allocates : call_of words ≡ Allocate size policy

pub record GrantedLaws : Type 0 where
  pub size : (journal : List ℕ) (from : Replayed) (id size policy : ℕ) (words : CallWords)
      → GivesRegion journal from id size policy words → (1 ≤ size) × (size ≤ 65536)
  pub within : (journal : List ℕ) (from : Replayed) (id size policy : ℕ) (words : CallWords) (it : LogRecord)
      → GivesRegion journal from id size policy words → Contains (replay_of journal from).made.nested.ledger.log it
      → it.region ≡ id → it.offset + length it.bytes ≤ size
