-- Runs that don't begin, and what they aren't answered with, each named by the sentence that it guards.
use Rattle.std.proofs.Common.{◌≡◌, ◌≢◌, ℕ, List, Some}
use Rattle.command_words.specs.declared.command_line.Role.{Role}
use Rattle.command_words.specs.declared.command_line.Command.TheVariants.{Run}
use Rattle.command_words.specs.CommandLine.{command_of}
use Rattle.file_scan.specs.ShelfChanges.{Change, ShelfState}
use Rattle.nk_run.specs.Clauses.{IsUnread}
use Rattle.nk_run.specs.Lines.{unread_line, usage_line}
use Rattle.nk_run.specs.Outcome.{Answer}
use Rattle.nk_run.specs.RunsBegun.{IsNoRun, IsUnreadRun}

-- a file is unread where none is, or is told by another line than that of an unread one, or with another status
module _ (words : List (List ℕ)) (shelf : Change ShelfState) (answer : Answer) (it : IsUnreadRun words shelf answer) where
  nothing_unread : ((role : Role) → IsUnread words shelf role → ⊥) → ⊥
  nothing_unread none = none it.role it.unread

  another_unread_line : ((role : Role) → answer ≢ record { status = 3; text = unread_line role }) → ⊥
  another_unread_line other = other it.role it.answer_is

-- words of a run are no run, or are answered otherwise than by the usage line
module _ (words : List (List ℕ)) (answer : Answer) (it : IsNoRun words answer) where
  words_of_a_run : (steps frames : ℕ) → command_of words ≡ Some (Run steps frames) → ⊥
  words_of_a_run steps frames asked = it.no_run steps frames asked

  another_usage : answer ≢ record { status = 2; text = usage_line } → ⊥
  another_usage other = other it.answer_is
