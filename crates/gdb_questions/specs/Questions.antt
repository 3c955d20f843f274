-- What the body of a packet asks, by GDB's remote serial protocol. Numbers are hexadecimal, of 1 to 16 digits.
use Rattle.std.specs.Prelude.{ℕ, ◌+◌, ◌==◌, ◌||◌, Bool, false, if◌then◌else◌, slice_index, List, [], ◌∷◌, codes, drop, length, take, Option, None, Some, Result, Ok, Err, nat_lt}
use Rattle.std.specs.List.{position}
use Rattle.std.specs.Str.{bytes_eq}
use Rattle.text_lines.specs.Numerals.{numeral}
use Rattle.gdb_questions.specs.declared.question.Question.{Question}
use Rattle.gdb_questions.specs.declared.question.Question.TheVariants.{Features, Halt, Registers, Memory, StepOn, GoOn, StepBack, GoBack, SetBreak, ClearBreak, SetWatch, ClearWatch, Description, Attached, CurrentThread, Threads, MoreThreads, ChooseThread, Monitor, Change, Detach, Kill, Unknown}
use Rattle.hex.specs.declared.error.FromHexError.{FromHexError}
use Rattle.hex.specs.Hex.{decode_of}
use Rattle.gdb_questions.specs.declared.order.Order.{Order}
use Rattle.gdb_questions.specs.declared.order.Order.TheVariants.{Help}
use Rattle.gdb_questions.specs.Orders.{order_of}
use Rattle.gdb_questions.specs.Words.{behind_word}

-- two numbers with a comma between them
abbrev pub pair_with : (ℕ → ℕ → Question) → Option ℕ → Option ℕ → Question
pair_with question (Some one) (Some two) = question one two
pair_with question one two = Unknown

abbrev pub pair_at : (ℕ → ℕ → Question) → List ℕ → Option ℕ → Question
pair_at question text None = Unknown
pair_at question text (Some comma) =
    pair_with question (numeral 16 16 (take comma text)) (numeral 16 16 (drop (comma + 1) text))

abbrev pub pair_in : (ℕ → ℕ → Question) → List ℕ → Question
pair_in question text = pair_at question text (position (λ c. c == 0x2C) text)

-- a question about threads in one word, and any question of one word
abbrev pub thread_question : List ℕ → Option Question
thread_question body =
    if bytes_eq body (codes "qC") then Some CurrentThread
    else if bytes_eq body (codes "qfThreadInfo") then Some Threads
    else if bytes_eq body (codes "qsThreadInfo") then Some MoreThreads
    else if bytes_eq body (codes "qAttached") then Some Attached
    else None

abbrev pub word_question : List ℕ → Option Question
word_question body =
    if bytes_eq body (codes "g") then Some Registers
    else if bytes_eq body (codes "s") then Some StepOn
    else if bytes_eq body (codes "c") then Some GoOn
    else if bytes_eq body (codes "bs") then Some StepBack
    else if bytes_eq body (codes "bc") then Some GoBack
    else if bytes_eq body (codes "?") then Some Halt
    else if bytes_eq body (codes "D") then Some Detach
    else if bytes_eq body (codes "k") then Some Kill
    else thread_question body

-- by the word at the front, what is asked with the rest; else what comes later says
abbrev pub asked_by : Option (List ℕ) → (List ℕ → Question) → Question → Question
asked_by (Some rest) read later = read rest
asked_by None read later = later

-- breakpoints and watchpoints, with the number of bytes behind the address; a breakpoint's says nothing
abbrev pub point_question : List ℕ → Question → Question
point_question body later =
    asked_by (behind_word (codes "Z0,") body) (pair_in (λ address size. SetBreak address))
    (asked_by (behind_word (codes "Z1,") body) (pair_in (λ address size. SetBreak address))
    (asked_by (behind_word (codes "z0,") body) (pair_in (λ address size. ClearBreak address))
    (asked_by (behind_word (codes "z1,") body) (pair_in (λ address size. ClearBreak address))
    (asked_by (behind_word (codes "Z2,") body) (pair_in SetWatch)
    (asked_by (behind_word (codes "z2,") body) (pair_in ClearWatch) later)))))

-- a byte is one of these
abbrev pub is_among : ℕ → List ℕ → Bool
is_among byte [] = false
is_among byte (it ∷ later) = byte == it || is_among byte later

-- what would change a run: registers, memory, and moves to another address or with a signal
abbrev pub changes : List ℕ → Bool
changes body = is_among (slice_index body 0) (codes "GPMXCSsc")

-- an order, as the hexadecimal digits of its bytes, at most 32
abbrev pub order_by : Result (List ℕ) FromHexError → Order
order_by (Ok text) = order_of text
order_by (Err fault) = Help

abbrev pub monitor_question : List ℕ → Question
monitor_question digits = Monitor (if nat_lt 64 (length digits) then Help else order_by (decode_of digits))

-- a question whose first word isn't all of it
abbrev pub front_question : List ℕ → Question
front_question body =
    asked_by (behind_word (codes "m") body) (pair_in Memory)
    (asked_by (behind_word (codes "qXfer:features:read:target.xml:") body) (pair_in Description)
    (asked_by (behind_word (codes "qRcmd,") body) monitor_question
    (asked_by (behind_word (codes "qSupported") body) (λ rest. Features)
    (asked_by (behind_word (codes "H") body) (λ rest. ChooseThread)
    (asked_by (behind_word (codes "T") body) (λ rest. ChooseThread)
    (point_question body (if changes body then Change else Unknown)))))))

abbrev pub or_question : Option Question → Question → Question
or_question (Some question) later = question
or_question None later = later

unfoldable pub question_of : List ℕ → Question
question_of body = or_question (word_question body) (front_question body)
