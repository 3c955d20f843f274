-- The reply to a scan that stopped.
use Rattle.std.specs.Prelude.{◌≡◌, ℕ, ◌≤◌, List, Some, ⊤}
use Rattle.command_words.specs.declared.command_line.Role.TheVariants.{Image}
use Rattle.file_scan.specs.declared.pieces.Stop.{Stop}
use Rattle.file_scan.specs.declared.pieces.Stop.TheVariants.{Faulty, Longer, Protected, Unread, Want}
use Rattle.nk_run.specs.Lines.{longer_line, unread_line}
use Rattle.nk_run.specs.Outcome.{clean, formed}
use Rattle.nk_run.specs.Replies.{EndsBy, IsWant}

-- the line of an encoding can be written: the encoding has at most three bytes
abbrev pub IsShort : Stop → Type 0
IsShort (Protected found) = found.count ≤ 3
IsShort _ = ⊤

-- the reply to a scan of the image that stopped
abbrev pub IsReplyTo : Stop → ℕ → List ℕ → Type 0
IsReplyTo Unread status text = (status ≡ 3) × (text ≡ unread_line Image)
IsReplyTo Want status text = IsWant status text
IsReplyTo Longer status text = (status ≡ 7) × (text ≡ longer_line Image)
IsReplyTo (Faulty fault) status text = EndsBy 1 (formed (Some fault)) status text
IsReplyTo (Protected found) status text = EndsBy 1 (clean (Some found)) status text
