-- The lines that the program writes beside those of a run, byte for byte. Lists of bytes nest to the right, as a format writes them.
use Rattle.std.specs.Prelude.{ℕ, ◌++◌, if◌then◌else◌, List, codes, Result, Ok, Err}
use Rattle.std.specs.Fmt.{decimal}
use Rattle.nk_bits.specs.declared.leaf.Leaf.{Leaf}
use Rattle.nk_bits.specs.declared.leaf.Rights.{Rights}
use Rattle.report_text.specs.RunLines.{hex_16}
use Rattle.command_words.specs.declared.command_line.Role.{Role}
use Rattle.command_words.specs.declared.command_line.Role.TheVariants.{Image, Input, Plan, Journal, ModuleList, Module, Text}
use Rattle.file_scan.specs.GoodImages.{longest_file}

-- the most bytes of a module that is read: 1 MiB
abbrev pub longest_module : ℕ
longest_module = 1048576

-- of a role's file
abbrev pub most_of : Role → ℕ
most_of (Module number) = longest_module
most_of _ = longest_file

-- a role's word
abbrev pub role_text : Role → List ℕ
role_text Image = codes "image"
role_text Input = codes "input"
role_text Plan = codes "plan"
role_text Journal = codes "journal"
role_text ModuleList = codes "list"
role_text (Module number) = codes "module"
role_text Text = codes "text"

-- the words have none of the forms
unfoldable pub usage_line : List ℕ
usage_line = codes "usage: nkrun scan IMAGE | map IMAGE FRAMES VA | run IMAGE INPUT PLAN STEPS FRAMES | replay IMAGE FRAMES JOURNAL | make NUMBER | work NUMBER | join IMAGE LIST | audit IMAGE FRAMES JOURNAL ID | asm TEXT | list IMAGE ADDR COUNT\n"

-- there was no memory
unfoldable pub no_memory_line : List ℕ
no_memory_line = codes "no memory\n"

-- a file couldn't be read
unfoldable pub unread_line : Role → List ℕ
unread_line role = codes "unread " ++ (role_text role ++ codes "\n")

-- a file has more bytes than its limit
unfoldable pub longer_line : Role → List ℕ
longer_line role = codes "longer " ++ (role_text role ++ (codes " " ++ (decimal (most_of role) ++ codes "\n")))

-- the opening needs more frames than there are
unfoldable pub noroom_line : ℕ → ℕ → List ℕ
noroom_line need have = codes "noroom " ++ (decimal need ++ (codes " " ++ (decimal have ++ codes "\n")))

-- the first line of a plan that isn't well formed
unfoldable pub plan_line : ℕ → List ℕ
plan_line number = codes "plan line " ++ (decimal number ++ codes "\n")

-- the first line of a journal that isn't well formed, or that says of a call what the nested kernel's state doesn't give
unfoldable pub journal_line : ℕ → List ℕ
journal_line number = codes "journal line " ++ (decimal number ++ codes "\n")

-- the first line of a list of modules that isn't well formed
unfoldable pub list_line : ℕ → List ℕ
list_line number = codes "list line " ++ (decimal number ++ codes "\n")

-- the first module without bytes, numbered from 0
unfoldable pub empty_line : ℕ → List ℕ
empty_line number = codes "module " ++ (decimal number ++ codes " empty\n")

-- the modules don't fit behind the image
unfoldable pub nofit_line : List ℕ
nofit_line = codes "nofit\n"

-- no call of the journal gave a region this identifier, or its writes aren't logged
unfoldable pub noregion_line : ℕ → List ℕ
noregion_line id = codes "noregion " ++ (decimal id ++ codes "\n")

-- the first line of a text that has no code
unfoldable pub text_line : ℕ → List ℕ
text_line number = codes "text line " ++ (decimal number ++ codes "\n")

-- no code of the image stands at this address
unfoldable pub noaddress_line : ℕ → List ℕ
noaddress_line address = codes "noaddress " ++ (hex_16 address ++ codes "\n")

-- rights, a letter each: read; write; execute; user or supervisor
unfoldable pub rights_text : Rights → List ℕ
rights_text rights =
    (if rights.can_write then codes "rw" else codes "r-")
    ++ ((if rights.exec then codes "x" else codes "-") ++ (if rights.user then codes "u" else codes "s"))

-- a translation, and the first level whose entry is missing
unfoldable pub frame_line : ℕ → Rights → List ℕ
frame_line frame rights = codes "frame " ++ (decimal frame ++ (codes " " ++ (rights_text rights ++ codes "\n")))

unfoldable pub missing_line : ℕ → List ℕ
missing_line level = codes "missing " ++ (decimal level ++ codes "\n")

-- what a walk finds
abbrev pub walk_line : Result Leaf ℕ → List ℕ
walk_line (Ok leaf) = frame_line leaf.frame leaf.rights
walk_line (Err level) = missing_line level
