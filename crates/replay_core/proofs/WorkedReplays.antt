-- Journals at worked values, over any tables, handler and memory.
use Rattle.std.proofs.Common.{◌≡◌, ℕ, List, [], None, Some, Option, length, codes, refl}
use Rattle.hex.specs.Hex.{decode_pairs}
use Rattle.nk_body.specs.CallRules.{answer_to}
use Rattle.nk_body.specs.Calls.{call_of}
use Rattle.nk_body.specs.NestedRecord.{Nested}
use Rattle.nk_body.specs.SourceWords.{opening_ledger}
use Rattle.region_book.specs.RegionCalls.{alloc_rule, room}
use Rattle.replay_core.specs.ReplayedCalls.{WholeReplay, Replayed, replay_from, replay_of}

module _ (nk : Nested) (memory : List ℕ) where
  -- the opening's ledger, with any tables, handler, guarded bytes and memory
  abbrev pub opened : Replayed
  opened = record { nested = record nk { ledger = opening_ledger }; memory = memory }

  abbrev pub replay : List ℕ → WholeReplay
  replay journal = replay_of journal opened

  -- the first line that isn't right, and what is left: handler, next identifier, live regions and records of the log
  abbrev pub bad : List ℕ → Option ℕ
  bad journal = (replay journal).bad

  abbrev pub left : List ℕ → ℕ × ℕ × ℕ × ℕ
  left journal =
      let nested = (replay journal).made.nested in
      (nested.trap, nested.ledger.book.next, length nested.ledger.book.regions, length nested.ledger.log)

  -- nothing behind the end is looked at, and only calls leave anything
  quiet :
      (bad [] ≡ None) ×
      (bad (codes "c 41\n") ≡ None) ×
      (bad (codes "c 41") ≡ None) ×
      (bad (codes "\n") ≡ Some 1) ×
      (bad (codes "c 41\n\n") ≡ Some 2) ×
      (bad (codes "c 41\nend steps\n\nK") ≡ None) ×
      (bad (codes "end halted\nturns 5\n") ≡ None) ×
      (bad (codes "c 41\nturns 5\n") ≡ Some 2) ×
      (bad (codes "c 41\nend\n") ≡ Some 2) ×
      (left (codes "c 41\ni 32 - ffffff8000001010 -\nend steps\n") ≡ (nk.trap, 256, 0, 0))
  unfolding replay_of replay_from
  quiet = (refl, refl, refl, refl, refl, refl, refl, refl, refl, refl)

  -- a call that breaks a rule answers its number, and leaves nothing; one whose answer isn't right is made, and is the
  -- last
  handlers :
      (bad (codes "k 0 0 0 0 0 - 1 -") ≡ None) ×
      (bad (codes "k 0 0 0 0 0 - 0 -") ≡ Some 1) ×
      (bad (codes "k 1 800000000000 0 0 0 - 27 -") ≡ None) ×
      (left (codes "k 1 800000000000 0 0 0 - 27 -") ≡ (nk.trap, 256, 0, 0)) ×
      (bad (codes "k 1 5000 0 0 0 - 0 -\nc 41\n") ≡ None) ×
      (left (codes "k 1 5000 0 0 0 - 0 -\nc 41\n") ≡ (0x5000, 256, 0, 0)) ×
      (bad (codes "k 1 5000 0 0 0 - 5 -\nk 1 6000 0 0 0 - 0 -\n") ≡ Some 1) ×
      (left (codes "k 1 5000 0 0 0 - 5 -\nk 1 6000 0 0 0 - 0 -\n") ≡ (0x5000, 256, 0, 0)) ×
      (bad (codes "k 1 5000 0 0 0 - 0 0000000000000000\n") ≡ Some 1) ×
      (left (codes "k 1 5000 0 0 0 - 0 0000000000000000\n") ≡ (0x5000, 256, 0, 0)) ×
      (bad (codes "k 1 5000 0 0 0 ! 0 -\n") ≡ Some 1) ×
      (left (codes "k 1 5000 0 0 0 ! 0 -\n") ≡ (nk.trap, 256, 0, 0)) ×
      (bad (codes "k 1 5000 0 0 1 00 0 -\n") ≡ Some 1) ×
      (left (codes "k 1 5000 0 0 1 00 0 -\n") ≡ (nk.trap, 256, 0, 0)) ×
      (left (codes "k 1 5000 0 0 0 - 0 -\nend halted\nk 1 6000 0 0 0 - 0 -\n") ≡ (0x5000, 256, 0, 0))
  unfolding replay_of replay_from call_of answer_to decode_pairs
  handlers = (refl, refl, refl, refl, refl, refl, refl, refl, refl, refl, refl, refl, refl, refl, refl)

  -- a region of the pool, with its place; and what a call 9 takes: as many bytes as it names, or none where no region
  -- has its range
  regions :
      (bad (codes "k 7 10 1 0 0 - 256 ffffff8000010000\n") ≡ None) ×
      (left (codes "k 7 10 1 0 0 - 256 ffffff8000010000\n") ≡ (nk.trap, 257, 1, 0)) ×
      (bad (codes "k 7 10 1 0 0 - 256 -\n") ≡ Some 1) ×
      (left (codes "k 7 10 1 0 0 - 256 -\nk 7 10 1 0 0 - 257 ffffff8000010010\n") ≡ (nk.trap, 257, 1, 0)) ×
      (bad (codes "k 7 10 1 0 0 - 256 ffffff8000010001\n") ≡ Some 1) ×
      (left (codes "k 7 10 1 0 0 - 256 ffffff8000010001\n") ≡ (nk.trap, 257, 1, 0)) ×
      (bad (codes "k 7 10 1 0 0 - 256 ffffff8000010000\nk 9 100 c 1000 4 ! 22 -\n") ≡ None) ×
      (bad (codes "k 7 10 1 0 0 - 256 ffffff8000010000\nk 9 100 c 1000 4 - 22 -\n") ≡ Some 2) ×
      (bad (codes "k 7 10 1 0 0 - 256 ffffff8000010000\nk 9 100 c 1000 4 010203 0 -\n") ≡ Some 2) ×
      (bad (codes "k 7 10 1 0 0 - 256 ffffff8000010000\nk 9 100 c 1000 4 0102030405 0 -\n") ≡ Some 2) ×
      (bad (codes "k 7 10 1 0 0 - 256 ffffff8000010000\nk 9 100 d 1000 4 - 21 -\n") ≡ None) ×
      (bad (codes "k 7 10 1 0 0 - 256 ffffff8000010000\nk 9 100 d 1000 4 01020304 21 -\n") ≡ Some 2) ×
      (bad (codes "k 7 10 1 0 0 - 256 ffffff8000010000\nk 9 100 0 1000 0 - 21 -\n") ≡ None) ×
      (bad (codes "k 7 10 1 0 0 - 256 ffffff8000010000\nk 9 100 0 1000 0  21 -\n") ≡ Some 2) ×
      (bad (codes "k 9 100 0 1000 4 - 19 -\n") ≡ None) ×
      (bad (codes "k 9 100 0 1000 4 ! 19 -\n") ≡ Some 1)
  unfolding replay_of replay_from call_of answer_to decode_pairs alloc_rule room
  regions = (refl, refl, refl, refl, refl, refl, refl, refl, refl, refl, refl, refl, refl, refl, refl, refl)
