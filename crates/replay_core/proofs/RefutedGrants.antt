-- What isn't so of the region that a call was answered with: each premise of the law is one that it needs, its bound is
-- reached, and the region needn't live.
use Rattle.std.proofs.Common.{◌≡◌, ℕ, ◌+◌, ◌≤◌, List, [], ◌∷◌, length, None, Some, codes, refl, sym, subst, arith}
use Rattle.std.specs.Prelude.{Contains}
use Rattle.hex.specs.Hex.{decode_pairs}
use Rattle.nk_bits.specs.declared.call.CallWords.{CallWords}
use Rattle.region_book.specs.RegionCalls.{alloc_rule, room}
use Rattle.policy_book.specs.PolicyRules.{policy_rule}
use Rattle.write_log.specs.LogRecords.{LogRecord, log_size}
use Rattle.nk_body.specs.CallRules.{answer_to}
use Rattle.nk_body.specs.Calls.{call_of}
use Rattle.nk_body.specs.NestedRecord.{Nested}
use Rattle.nk_body.specs.SourceWords.{opening_ledger}
use Rattle.replay_core.specs.GrantedCalls.{granted_in, granted_of}
use Rattle.replay_core.specs.ReplayedCalls.{Replayed, replay_from, replay_of}
use Rattle.replay_core.proofs.WorkedReplays.{bad, left, opened, replay}

-- no byte is asked for, which breaks a rule
abbrev nothing : CallWords
nothing = record { number = 7; a = 0; b = 4; c = 0; d = 0 }

module _ (nk : Nested) (memory : List ℕ) where
  -- in a journal that isn't accepted
  unaccepted : ((journal : List ℕ) (from : Replayed) (id : ℕ) (call : CallWords) → from.nested.ledger ≡ opening_ledger
      → 256 ≤ id → granted_of journal id ≡ Some call → call.number ≡ 7 → 1 ≤ call.a) → ⊥
  unfolding granted_of granted_in
  unaccepted law =
      let wrong : 1 ≤ 0 = law (codes "k 7 0 4 0 0 - 256 -\n") (opened nk memory) 256 nothing refl (omega arith) refl refl in
      omega arith

  -- an answer that is a rule's number
  low : ((journal : List ℕ) (from : Replayed) (id : ℕ) (call : CallWords) → from.nested.ledger ≡ opening_ledger
      → (replay_of journal from).bad ≡ None → granted_of journal id ≡ Some call → call.number ≡ 7 → 1 ≤ call.a) → ⊥
  unfolding granted_of granted_in replay_of replay_from call_of answer_to alloc_rule room
  low law =
      let wrong : 1 ≤ 0 = law (codes "k 7 0 4 0 0 - 15 -\n") (opened nk memory) 15 nothing refl refl refl refl in
      omega arith

  -- a log that has two bytes of the identifier's region, before that is given
  abbrev early : LogRecord
  early = record { region = 256; offset = 0; bytes = 1 ∷ 2 ∷ [] }

  abbrev written_before : Replayed
  written_before = record {
    nested = record nk { ledger = record opening_ledger { log = early ∷ [] } };
    memory = memory;
  }

  abbrev one_byte : List ℕ
  one_byte = codes "k 7 1 4 0 0 - 256 ffffff8000010000\n"

  abbrev a_byte : CallWords
  a_byte = record { number = 7; a = 1; b = 4; c = 0; d = 0 }

  written : ((journal : List ℕ) (from : Replayed) (id : ℕ) (call : CallWords) (it : LogRecord) → 256 ≤ id
      → (replay_of journal from).bad ≡ None → granted_of journal id ≡ Some call → call.number ≡ 7
      → Contains (replay_of journal from).made.nested.ledger.log it → it.region ≡ id
      → it.offset + length it.bytes ≤ call.a) → ⊥
  unfolding granted_of granted_in replay_of replay_from call_of answer_to alloc_rule room
  written law =
      let stays : (replay_of one_byte written_before).made.nested.ledger.log ≡ early ∷ [] = refl in
      let wrong : 2 ≤ 1 =
      law one_byte written_before 256 a_byte early (omega arith) refl refl refl
      (subst (λ (log : List LogRecord). Contains log early) (sym stays) (0, omega arith, refl)) refl in
      omega arith

  -- the whole region may be written, and the write stays in the log though the region is let go
  abbrev whole : List ℕ
  whole = codes "k 7 2 4 0 0 - 256 ffffff8000010000\nk 9 100 0 1000 2 0102 0 -\nk 8 100 0 0 0 - 0 -\n"

  let_go :
      (bad nk memory whole ≡ None) ×
      (left nk memory whole ≡ (nk.trap, 257, 0, 1)) ×
      ((replay nk memory whole).made.nested.ledger.log ≡ early ∷ [])
  unfolding replay_of replay_from call_of answer_to decode_pairs alloc_rule room policy_rule log_size
  let_go = (refl, refl, refl)

  -- a byte more is refused, and isn't in the log
  abbrev past : List ℕ
  past = codes "k 7 2 4 0 0 - 256 ffffff8000010000\nk 9 100 0 1000 3 - 21 -\nk 9 100 1 1000 2 - 21 -\n"

  refused : (bad nk memory past ≡ None) × (left nk memory past ≡ (nk.trap, 257, 1, 0))
  unfolding replay_of replay_from call_of answer_to decode_pairs alloc_rule room policy_rule log_size
  refused = (refl, refl)
