-- A line as the code hears it, whose source stays a word, and the source as the code takes it: its bytes stand at the
-- front of a buffer.
use Rattle.std.specs.Prelude.{ℕ, Bool, ◌==◌, if◌then◌else◌, List, codes, length, take, Option, None, Some}
use Rattle.nk_body.specs.CallRules.{Bytes, NotTaken, Sourced, Unreadable}
use Rattle.replay_core.specs.declared.heard.ReadLine.{ReadLine}
use Rattle.replay_core.specs.declared.heard.ReadLine.TheVariants as read
use Rattle.replay_core.specs.JournalLines.{Ends, Heard, Passes, is_text, noted_with, source_of_word}
use Rattle.replay_core.specs.ReplayedCalls.{is_given}

-- what the line says, once the word of its source is read; None where that is out of form
abbrev pub heard_in : Option ReadLine → Option Heard
heard_in None = None
heard_in (Some read.Passes) = Some Passes
heard_in (Some (read.Calls it)) =
    noted_with (Some it.call) (source_of_word it.source.now) (Some it.value) (Some it.place)
heard_in (Some read.Ends) = Some Ends

-- the bytes that were put into a buffer, if any
abbrev pub put_in : Bool → List ℕ → Option (List ℕ)
put_in done buffer = if done then Some buffer else None

-- the bytes of a word, where they are so many
abbrev pub so_many : ℕ → Option (List ℕ) → Option (List ℕ)
so_many count None = None
so_many count (Some bytes) = if length bytes == count then Some bytes else None

-- the source of a call that wants so many bytes, by the buffer and the word
abbrev pub source_in : List ℕ → Option ℕ → List ℕ → Sourced
source_in buffer None word = NotTaken
source_in buffer (Some count) word = if is_text (codes "!") word then Unreadable else Bytes (take count buffer)

-- where the call takes what the word notes
abbrev pub source_where : Bool → List ℕ → Option ℕ → List ℕ → Option Sourced
source_where done buffer wanted word = if done then Some (source_in buffer wanted word) else None

-- the source that is noted, where a call that wants so many bytes takes it
abbrev pub given_source : Option ℕ → Option Sourced → Option Sourced
given_source wanted None = None
given_source wanted (Some source) = if is_given wanted source then Some source else None
