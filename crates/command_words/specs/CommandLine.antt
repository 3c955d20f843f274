-- The command line: the forms that the words may have, and the name that stands for each role's file.
use Rattle.std.specs.Prelude.{ℕ, ◌+◌, ◌^◌, ◌<◌, ◌≤◌, if◌then◌else◌, List, [], ◌∷◌, map, Contains, Option, None, Some, IsSomeAnd, codes, slice_index_or, IsTrue, ⊤}
use Rattle.std.specs.List.{range_with_len}
use Rattle.std.specs.Option.{option_map}
use Rattle.std.specs.Str.{bytes_eq}
use Rattle.nk_bits.specs.Paging.{is_canonical}
use Rattle.text_lines.specs.Numerals.{numeral}
use Rattle.command_words.specs.declared.command_line.Command.{Command}
use Rattle.command_words.specs.declared.command_line.Command.TheVariants.{Scan, Map, Run, Replay, Make, Work, Join, Audit, Assemble, Listing}
use Rattle.command_words.specs.declared.command_line.Role.{Role}
use Rattle.command_words.specs.declared.command_line.Role.TheVariants.{Image, Input, Plan, Journal, ModuleList, Module, Text}
use Rattle.command_words.specs.NumberWords.{decimal_within, address_word}

-- What the words ask for is a command, by the numbers among them; the names of the files are read beside it.

-- a command of two numbers, where the words are numbers both
abbrev pub both : (ℕ → ℕ → Command) → Option ℕ → Option ℕ → Option Command
both command (Some a) (Some b) = Some (command a b)
both command a b = None

-- `scan IMAGE`; `asm TEXT`; and `make NUMBER` and `work NUMBER`, NUMBER from 1 to 100
abbrev pub short_of : List ℕ → List ℕ → Option Command
short_of name word =
    if bytes_eq name (codes "scan") then Some Scan
    else if bytes_eq name (codes "asm") then Some Assemble
    else if bytes_eq name (codes "make") then option_map Make (decimal_within 1 100 word)
    else if bytes_eq name (codes "work") then option_map Work (decimal_within 1 100 word)
    else None

-- `join IMAGE LIST`
abbrev pub pair_of : List ℕ → Option Command
pair_of name = if bytes_eq name (codes "join") then Some Join else None

-- `list IMAGE ADDR COUNT`: ADDR has 1 to 16 hexadecimal digits, and COUNT is from 1 to 4,096
abbrev pub listing_of : List ℕ → List ℕ → List ℕ → Option Command
listing_of name address count =
    if bytes_eq name (codes "list") then both Listing (numeral 16 16 address) (decimal_within 1 4096 count) else None

-- that; `map IMAGE FRAMES VA`: FRAMES from 512 to 65,536, which are 2 MiB to 256 MiB, and VA a canonical address; or `replay
-- IMAGE FRAMES JOURNAL` with the same bounds on FRAMES
abbrev pub middle_of : List ℕ → List ℕ → List ℕ → Option Command
middle_of name third last =
    if bytes_eq name (codes "map") then both Map (decimal_within 512 65536 third) (address_word last)
    else if bytes_eq name (codes "replay") then option_map Replay (decimal_within 512 65536 third)
    else listing_of name third last

-- `audit IMAGE FRAMES JOURNAL ID`: FRAMES as above, and ID from 256 to 2^33 - 1, the identifiers that regions may have
abbrev pub audit_of : List ℕ → List ℕ → List ℕ → Option Command
audit_of name frames id =
    if bytes_eq name (codes "audit")
    then both Audit (decimal_within 512 65536 frames) (decimal_within 256 8589934591 id)
    else None

-- `run IMAGE INPUT PLAN STEPS FRAMES`: STEPS at most 2^32, the most turns that the run may take, and FRAMES as above
abbrev pub run_of : List ℕ → List ℕ → List ℕ → Option Command
run_of name steps frames =
    if bytes_eq name (codes "run")
    then both Run (decimal_within 0 4294967296 steps) (decimal_within 512 65536 frames)
    else None

-- the command that the words spell, without the program's own name; other words have no form
abbrev pub command_of : List (List ℕ) → Option Command
command_of (name ∷ word ∷ []) = short_of name word
command_of (name ∷ image ∷ list ∷ []) = pair_of name
command_of (name ∷ image ∷ third ∷ last ∷ []) = middle_of name third last
command_of (name ∷ image ∷ frames ∷ journal ∷ id ∷ []) = audit_of name frames id
command_of (name ∷ image ∷ input ∷ plan ∷ steps ∷ frames ∷ []) = run_of name steps frames
command_of _ = None

-- a command's numbers lie within their bounds
abbrev pub IsBounded : Command → Type 0
IsBounded Scan = ⊤
IsBounded (Map frames va) = (512 ≤ frames) × (frames ≤ 65536) × IsTrue (is_canonical va)
IsBounded (Run steps frames) = (steps ≤ 4294967296) × (512 ≤ frames) × (frames ≤ 65536)
IsBounded (Replay frames) = (512 ≤ frames) × (frames ≤ 65536)
IsBounded (Make number) = (1 ≤ number) × (number ≤ 100)
IsBounded (Work number) = (1 ≤ number) × (number ≤ 100)
IsBounded Join = ⊤
IsBounded (Audit frames id) = (512 ≤ frames) × (frames ≤ 65536) × (256 ≤ id) × (id ≤ 8589934591)
IsBounded Assemble = ⊤
IsBounded (Listing address count) = (address < 2 ^ 64) × (1 ≤ count) × (count ≤ 4096)

-- the place among the words of the name of a role's file; a module's stands in the list, as if that came behind the words
abbrev pub word_place : Role → ℕ
word_place Image = 1
word_place Input = 2
word_place Plan = 3
word_place Journal = 3
word_place ModuleList = 2
word_place (Module number) = 3 + number
word_place Text = 1

-- the name of a role's file
abbrev pub name_in : List (List ℕ) → Role → List ℕ
name_in words role = slice_index_or words (word_place role) []

-- the roles of a command's files, in the order in which they are fetched; a list has at most 32 modules
abbrev pub roles_of : Command → List Role
roles_of Scan = Image ∷ []
roles_of (Map frames va) = Image ∷ []
roles_of (Run steps frames) = Image ∷ Input ∷ Plan ∷ []
roles_of (Replay frames) = Image ∷ Journal ∷ []
roles_of (Make number) = []
roles_of (Work number) = []
roles_of (Audit frames id) = Image ∷ Journal ∷ []
roles_of Assemble = Text ∷ []
roles_of (Listing address count) = Image ∷ []
roles_of Join = Image ∷ ModuleList ∷ map Module (range_with_len 0 32)

-- the words have a form, and the role is one of its command's
abbrev pub IsAsked : List (List ℕ) → Role → Type 0
IsAsked words role = IsSomeAnd (command_of words) (λ command. Contains (roles_of command) role)
