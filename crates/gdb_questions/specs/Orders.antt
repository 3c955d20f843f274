-- What a debugger asks in words.
use Rattle.std.specs.Prelude.{ℕ, if◌then◌else◌, List, codes, Option, None, Some}
use Rattle.std.specs.Str.{bytes_eq}
use Rattle.text_lines.specs.Numerals.{numeral}
use Rattle.gdb_questions.specs.declared.order.CatchKind.TheVariants.{Calls, Deliveries, Events, Console}
use Rattle.gdb_questions.specs.declared.order.Order.{Order}
use Rattle.gdb_questions.specs.declared.order.Order.TheVariants as order
use Rattle.gdb_questions.specs.Words.{behind_word}

-- `turn`, `state`, `kept`, `section` and `events`; and what is caught from now on
abbrev pub catch_order : List ℕ → Option Order
catch_order text =
    if bytes_eq text (codes "catch calls") then Some (order.Catch Calls)
    else if bytes_eq text (codes "catch deliveries") then Some (order.Catch Deliveries)
    else if bytes_eq text (codes "catch events") then Some (order.Catch Events)
    else if bytes_eq text (codes "catch console") then Some (order.Catch Console)
    else if bytes_eq text (codes "catch none") then Some order.CatchNone
    else None

abbrev pub word_order : List ℕ → Option Order
word_order text =
    if bytes_eq text (codes "turn") then Some order.Turn
    else if bytes_eq text (codes "state") then Some order.State
    else if bytes_eq text (codes "kept") then Some order.Kept
    else if bytes_eq text (codes "section") then Some order.Section
    else if bytes_eq text (codes "events") then Some order.Events
    else catch_order text

-- `turn N`, `step N` and `frame N`, decimal, of at most 20 digits; `tables ADDRESS`, hexadecimal, with or without 0x
abbrev pub with_number : (ℕ → Order) → Option ℕ → Order
with_number it (Some number) = it number
with_number it None = order.Help

abbrev pub digits_by : Option (List ℕ) → List ℕ → List ℕ
digits_by (Some digits) text = digits
digits_by None text = text

abbrev pub hexadecimal_in : List ℕ → Option ℕ
hexadecimal_in text = numeral 16 16 (digits_by (behind_word (codes "0x") text) text)

abbrev pub ordered_by : Option (List ℕ) → (List ℕ → Order) → Order → Order
ordered_by (Some rest) read later = read rest
ordered_by None read later = later

abbrev pub front_order : List ℕ → Order
front_order text =
    ordered_by (behind_word (codes "turn ") text) (λ rest. with_number order.GoToTurn (numeral 10 20 rest))
    (ordered_by (behind_word (codes "step ") text) (λ rest. with_number order.GoToStep (numeral 10 20 rest))
    (ordered_by (behind_word (codes "frame ") text) (λ rest. with_number order.Frame (numeral 10 20 rest))
    (ordered_by (behind_word (codes "tables ") text) (λ rest. with_number order.Tables (hexadecimal_in rest)) order.Help)))

abbrev pub or_order : Option Order → Order → Order
or_order (Some it) later = it
or_order None later = later

unfoldable pub order_of : List ℕ → Order
order_of text = or_order (word_order text) (front_order text)
