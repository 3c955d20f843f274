-- The call of a journal that was answered with a region's identifier.
use Rattle.std.specs.Prelude.{ℕ, ◌==◌, if◌then◌else◌, List, [], ◌∷◌, Option, None, Some}
use Rattle.nk_bits.specs.declared.call.CallWords.{CallWords}
use Rattle.text_lines.specs.TextLines.{lines, words}
use Rattle.replay_core.specs.JournalLines.{Calls, Ends, Heard, Passes, heard_of}

-- by a line: its call, where that was answered with the identifier; else what later lines give, but none behind the end
abbrev pub granted_by : ℕ → Option Heard → Option CallWords → Option CallWords
granted_by id None later = None
granted_by id (Some Passes) later = later
granted_by id (Some (Calls it)) later = if it.value == id then Some it.call else later
granted_by id (Some Ends) later = None

unfoldable pub granted_in : ℕ → List (List ℕ) → Option CallWords
granted_in id [] = None
granted_in id (line ∷ later) = granted_by id (heard_of (words line)) (granted_in id later)

unfoldable pub granted_of : List ℕ → ℕ → Option CallWords
granted_of journal id = granted_in id (lines journal)
