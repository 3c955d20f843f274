-- What the calls of a journal make of a record and of memory, without the processor, and the first line that isn't
-- right.
use Rattle.std.specs.Prelude.{◌≡◌, ℕ, ◌+◌, Bool, true, false, ◌&&◌, ◌==◌, if◌then◌else◌, List, [], ◌∷◌, length, Option, None, Some, ⊤}
use Rattle.phys_mem.specs.MaskedMemory.{seen}
use Rattle.nk_bits.specs.declared.call.Answer.{Answer}
use Rattle.nk_body.specs.Calls.{call_of}
use Rattle.nk_body.specs.CallRules.{Bytes, NotTaken, Sourced, Unreadable, after_call, answer_to, memory_after_call, stand_of, wants}
use Rattle.nk_body.specs.NestedRecord.{Books, Nested, OwnState, books_in, nested_by}
use Rattle.text_lines.specs.TextLines.{lines, words}
use Rattle.replay_core.specs.declared.fault.ReplayFault.{ReplayFault}
use Rattle.replay_core.specs.declared.fault.ReplayFault.TheVariants.{Line, Memory}
use Rattle.replay_core.specs.JournalLines.{Calls, Ends, Heard, Noted, Passes, heard_of}

-- the record that the nested kernel guards, and the memory that holds it
pub record Replayed : Type 0 where
  pub nested : Nested
  pub memory : List ℕ

-- what books and memory stand for
abbrev pub standing_in : Books → List ℕ → Replayed
standing_in books m = record { nested = nested_by books m; memory = m }

-- what the nested kernel keeps and memory stand for: its books are in both, and memory is what is seen of it
abbrev pub standing_held : OwnState → List ℕ → Replayed
standing_held own m = standing_in (books_in own m) (seen m)

-- what is noted of a source is what a call takes that wants so many bytes: all of them, or that one couldn't be read
abbrev pub is_given : Option ℕ → Sourced → Bool
is_given None NotTaken = true
is_given None _ = false
is_given (Some count) NotTaken = false
is_given (Some count) Unreadable = true
is_given (Some count) (Bytes bytes) = length bytes == count

-- two places are one, or there is none
abbrev pub is_same_place : Option ℕ → Option ℕ → Bool
is_same_place None None = true
is_same_place (Some one) (Some other) = one == other
is_same_place _ _ = false

-- what is noted of the answer is the answer
abbrev pub is_answer : Answer → Noted → Bool
is_answer answer it = answer.value == it.value && is_same_place answer.place it.place

-- the source and the answer that are noted are those that the record gives
abbrev pub is_source_right : Replayed → Noted → Bool
is_source_right s it = is_given (wants s.nested.ledger.book (call_of it.call)) it.source

abbrev pub is_answer_right : Replayed → Noted → Bool
is_answer_right s it = is_answer (answer_to s.nested (call_of it.call) it.source) it

-- record and memory after the call; pages that are declared hold what memory holds
abbrev pub replayed : Replayed → Noted → Replayed
replayed s it = record {
  nested = after_call s.nested (call_of it.call) it.source (stand_of s.nested (call_of it.call) s.memory);
  memory = memory_after_call s.nested (call_of it.call) it.source s.memory;
}

-- where a replay ends: what was made, and the number of the first line that isn't right, if any
pub record WholeReplay : Type 0 where
  pub made : Replayed
  pub bad : Option ℕ

abbrev pub stops_well : Replayed → WholeReplay
stops_well s = record { made = s; bad = None }

abbrev pub stops_at : ℕ → Replayed → WholeReplay
stops_at number s = record { made = s; bad = Some number }

-- a call whose source isn't right isn't made; one whose answer isn't right is, and is the last
abbrev pub with_noted : ℕ → Replayed → Noted → (Replayed → WholeReplay) → WholeReplay
with_noted number s it later =
    if is_source_right s it
    then (if is_answer_right s it then later (replayed s it) else stops_at number (replayed s it))
    else stops_at number s

abbrev pub with_line : ℕ → Replayed → Option Heard → (Replayed → WholeReplay) → WholeReplay
with_line number s None later = stops_at number s
with_line number s (Some Passes) later = later s
with_line number s (Some (Calls it)) later = with_noted number s it later
with_line number s (Some Ends) later = stops_well s

-- the replay of these lines, of which the first has this number
unfoldable pub replay_from : ℕ → List (List ℕ) → Replayed → WholeReplay
replay_from number [] s = stops_well s
replay_from number (line ∷ later) s = with_line number s (heard_of (words line)) (replay_from (number + 1) later)

-- the replay of a journal, whose lines are numbered from 1
unfoldable pub replay_of : List ℕ → Replayed → WholeReplay
replay_of journal s = replay_from 1 (lines journal) s

-- a replay may stop so: want of memory is free
abbrev pub IsReplayFault : WholeReplay → ReplayFault → Type 0
IsReplayFault replay (Line number) = replay.bad ≡ Some number
IsReplayFault replay Memory = ⊤
