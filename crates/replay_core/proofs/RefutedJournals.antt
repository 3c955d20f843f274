-- A journal that is right, and what may be changed in it: another answer or source, a line that is left out, and two that
-- are exchanged. Where a later answer tells, a line isn't right; else another record is left.
use Rattle.std.proofs.Common.{◌≡◌, ℕ, List, ◌++◌, None, Some, codes, refl}
use Rattle.hex.specs.Hex.{decode_pairs}
use Rattle.region_book.specs.RegionCalls.{alloc_rule, room}
use Rattle.region_book.specs.RegionRecords.{region_stores}
use Rattle.policy_book.specs.PolicyRules.{policy_rule}
use Rattle.nk_body.specs.CallRules.{answer_to, puts}
use Rattle.nk_body.specs.Calls.{call_of}
use Rattle.nk_body.specs.NestedRecord.{Nested}
use Rattle.replay_core.specs.ReplayedCalls.{replay_from, replay_of}
use Rattle.replay_core.proofs.WorkedReplays.{bad, left, replay}

-- a write-once region of four bytes is allocated, two of them are written, one of these again, and the region is freed
abbrev allocated : List ℕ
allocated = codes "k 7 4 1 0 0 - 256 ffffff8000010000\n"

abbrev written : List ℕ
written = codes "k 9 100 0 1000 2 0102 0 -\n"

abbrev refused : List ℕ
refused = codes "k 9 100 1 1000 1 03 24 -\n"

abbrev freed : List ℕ
freed = codes "k 8 100 0 0 0 - 0 -\n"

module _ (nk : Nested) (memory : List ℕ) where
  abbrev IsRight : List ℕ → Type 0
  IsRight journal = bad nk memory journal ≡ None

  abbrev IsWrongAt : ℕ → List ℕ → Type 0
  IsWrongAt number journal = bad nk memory journal ≡ Some number

  wrong_somewhere : (number : ℕ) (journal : List ℕ) → IsWrongAt number journal → IsRight journal → ⊥
  wrong_somewhere number journal wrong right = cc

  right : IsRight (allocated ++ written ++ refused ++ freed)
  unfolding replay_of replay_from call_of answer_to decode_pairs alloc_rule room policy_rule
  right = refl

  -- a rule for an accepted call, and 0 for a refused one; another identifier, and another place
  other_answers :
      IsWrongAt 2 (allocated ++ codes "k 9 100 0 1000 2 0102 24 -\n" ++ refused ++ freed) ×
      IsWrongAt 3 (allocated ++ written ++ codes "k 9 100 1 1000 1 03 0 -\n" ++ freed) ×
      IsWrongAt 1 (codes "k 7 4 1 0 0 - 257 ffffff8000010000\n" ++ written ++ refused ++ freed) ×
      IsWrongAt 1 (codes "k 7 4 1 0 0 - 256 ffffff8000010010\n" ++ written ++ refused ++ freed)
  unfolding replay_of replay_from call_of answer_to decode_pairs alloc_rule room policy_rule
  other_answers = (refl, refl, refl, refl)

  -- a byte less, and one more; none that could be read, where the call is accepted; and one for a call that takes none
  other_sources :
      IsWrongAt 2 (allocated ++ codes "k 9 100 0 1000 2 01 0 -\n" ++ refused ++ freed) ×
      IsWrongAt 2 (allocated ++ codes "k 9 100 0 1000 2 010203 0 -\n" ++ refused ++ freed) ×
      IsWrongAt 2 (allocated ++ codes "k 9 100 0 1000 2 ! 0 -\n" ++ refused ++ freed) ×
      IsWrongAt 4 (allocated ++ written ++ refused ++ codes "k 8 100 0 0 0 01 0 -\n")
  unfolding replay_of replay_from call_of answer_to decode_pairs alloc_rule room policy_rule
  other_sources = (refl, refl, refl, refl)

  -- a line that a later answer rests on, and one that stands twice
  left_out :
      IsWrongAt 1 (written ++ refused ++ freed) ×
      IsWrongAt 2 (allocated ++ refused ++ freed) ×
      IsWrongAt 5 (allocated ++ written ++ refused ++ freed ++ freed)
  unfolding replay_of replay_from call_of answer_to decode_pairs alloc_rule room policy_rule
  left_out = (refl, refl, refl)

  exchanged :
      IsWrongAt 1 (written ++ allocated ++ refused ++ freed) ×
      IsWrongAt 2 (allocated ++ refused ++ written ++ freed) ×
      IsWrongAt 4 (allocated ++ written ++ freed ++ refused)
  unfolding replay_of replay_from call_of answer_to decode_pairs alloc_rule room policy_rule
  exchanged = (refl, refl, refl)

  -- no answer rests on the last line, but the region lives on without it
  last_left_out :
      IsRight (allocated ++ written ++ refused) ×
      (left nk memory (allocated ++ written ++ refused) ≡ (nk.trap, 257, 1, 0)) ×
      (left nk memory (allocated ++ written ++ refused ++ freed) ≡ (nk.trap, 257, 0, 0))
  unfolding replay_of replay_from call_of answer_to decode_pairs alloc_rule room policy_rule
  last_left_out = (refl, refl, refl)

  -- nor on the bytes of a source, but they stand in the region: its second byte is at 1 in frame 10
  abbrev second_byte : List ℕ → ℕ
  second_byte journal = (replay nk memory journal).made.nested.held 10 1

  other_bytes :
      IsRight (allocated ++ codes "k 9 100 0 1000 2 0103 0 -\n") ×
      (second_byte (allocated ++ codes "k 9 100 0 1000 2 0103 0 -\n") ≡ 3) ×
      (second_byte (allocated ++ written) ≡ 2)
  unfolding replay_of replay_from call_of answer_to decode_pairs alloc_rule room policy_rule region_stores puts
  other_bytes = (refl, refl, refl)
