-- A list read in part, and the code's lines as the definition has them.
use Rattle.std.specs.Prelude.{◌≤◌, ◌<◌, List, ◌++◌, length, ℕ, Result, Ok, Err}
use Rattle.code_modules.specs.declared.list_line.ListLine as code_line
use Rattle.code_modules.specs.declared.list.Entry as code_entry
use Rattle.std.specs.String.{string_bytes}
use Rattle.code_modules.specs.ModuleList.{Listed}

abbrev pub as_listed : code_line.ListLine → Listed
as_listed line = record { guard = line.guard; name = line.name.now }

abbrev pub as_entry : code_entry.Entry → Listed
as_entry entry = record { guard = entry.guard; name = string_bytes entry.name }

-- lines that were read, before what the rest of the file gives
abbrev pub after_listed : List Listed → Result (List Listed) ℕ → Result (List Listed) ℕ
after_listed done (Ok later) = Ok (done ++ later)
after_listed done (Err number) = Err number

-- a list has 1 to 32 modules
pub record IsListLength (listed : List Listed) : Type 0 where
  pub some : 0 < length listed
  pub few : length listed ≤ 32
