-- The plan file: a line is `N irq V`, `N drop PAGE`, `N fill PAGE`, `N keep L PAGE` or `N forget L PAGE`, with single
-- spaces.
use Rattle.std.specs.Prelude.{◌≡◌, ℕ, ◌+◌, Bool, ◌&&◌, nat_le, if◌then◌else◌, List, [], ◌∷◌, Option, None, Some, Result, Ok, Err, codes, ⊤}
use Rattle.std.specs.Option.{option_map}
use Rattle.std.specs.Str.{bytes_eq}
use Rattle.irq_plan.specs.declared.event.Event.{Event}
use Rattle.irq_plan.specs.declared.event.What.{What}
use Rattle.irq_plan.specs.declared.event.What.TheVariants.{Irq, Drop, Fill, Keep, Forget}
use Rattle.irq_plan.specs.declared.fault.PlanFault.{PlanFault}
use Rattle.irq_plan.specs.declared.fault.PlanFault.TheVariants.{Line, Memory}
use Rattle.irq_plan.specs.PlannedEvents.{is_page_address}
use Rattle.text_lines.specs.Numerals.{numeral}
use Rattle.text_lines.specs.TextLines.{lines, words}

-- the number, where it passes the test
abbrev pub passed : (ℕ → Bool) → Option ℕ → Option ℕ
passed test None = None
passed test (Some n) = if test n then Some n else None

abbrev pub is_within : ℕ → ℕ → ℕ → Bool
is_within low high n = nat_le low n && nat_le n high

-- N: 1 to 10 decimal digits, at most 2^32, and no less than the N of the line before
abbrev pub due_of : ℕ → List ℕ → Option ℕ
due_of least word = passed (is_within least 4294967296) (numeral 10 10 word)

-- V: 32 to 47 in two decimal digits
abbrev pub vector_word : List ℕ → Option ℕ
vector_word word = passed (is_within 32 47) (numeral 10 2 word)

-- PAGE: 1 to 16 hexadecimal digits of either case, the canonical address of a page's first byte
abbrev pub page_address_of : List ℕ → Option ℕ
page_address_of word = passed is_page_address (numeral 16 16 word)

-- what the second and the third word say
abbrev pub what_of : List ℕ → List ℕ → Option What
what_of verb number =
    if bytes_eq verb (codes "irq") then option_map Irq (vector_word number)
    else if bytes_eq verb (codes "drop") then option_map Drop (page_address_of number)
    else if bytes_eq verb (codes "fill") then option_map Fill (page_address_of number)
    else None

-- L: 2, 3 or 4, one digit
abbrev pub level_word : List ℕ → Option ℕ
level_word word = passed (is_within 2 4) (numeral 10 1 word)

-- what is done with the entry of a level and a page, where both are given
abbrev pub entry_with : (ℕ → ℕ → What) → Option ℕ → Option ℕ → Option What
entry_with what None page = None
entry_with what (Some level) page = option_map (what level) page

-- what the second, the third and the fourth word say
abbrev pub event_word : List ℕ → List ℕ → List ℕ → Option What
event_word verb level page =
    if bytes_eq verb (codes "keep") then entry_with Keep (level_word level) (page_address_of page)
    else if bytes_eq verb (codes "forget") then entry_with Forget (level_word level) (page_address_of page)
    else None

abbrev pub event_with : Option ℕ → Option What → Option Event
event_with (Some due) (Some what) = Some (record { due = due; what = what })
event_with (Some due) None = None
event_with None what = None

-- the event of a line by its words, where none before it is due later than `least`
abbrev pub event_of : ℕ → List (List ℕ) → Option Event
event_of least (due ∷ verb ∷ number ∷ []) = event_with (due_of least due) (what_of verb number)
event_of least (due ∷ verb ∷ level ∷ page ∷ []) = event_with (due_of least due) (event_word verb level page)
event_of least _ = None

-- an event before those of the later lines
abbrev pub event_before : Event → Result (List Event) ℕ → Result (List Event) ℕ
event_before event (Ok later) = Ok (event ∷ later)
event_before event (Err line) = Err line

-- what a line's event, if it has one, and the later lines make
abbrev pub followed : ℕ → Option Event → (ℕ → Result (List Event) ℕ) → Result (List Event) ℕ
followed number None later = Err number
followed number (Some event) later = event_before event (later event.due)

-- the events of these lines, the first of which has this number; or the number of the first that is out of form
unfoldable pub read_from : ℕ → ℕ → List (List ℕ) → Result (List Event) ℕ
read_from number least [] = Ok []
read_from number least (line ∷ later) =
    followed number (event_of least (words line)) (λ due. read_from (number + 1) due later)

-- the events of a file; or the number, from 1 on, of its first line that is out of form
unfoldable pub plan_of : List ℕ → Result (List Event) ℕ
plan_of bytes = read_from 1 0 (lines bytes)

-- a reading of the file may fail so: want of memory is free
abbrev pub IsPlanFault : List ℕ → PlanFault → Type 0
IsPlanFault bytes (Line number) = plan_of bytes ≡ Err number
IsPlanFault bytes Memory = ⊤
