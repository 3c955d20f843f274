-- Ends of the lists of what may be asked, for the functions that read them.
use Rattle.std.specs.Prelude.{ℕ, if◌then◌else◌, List, codes, Option, Some}
use Rattle.std.specs.Str.{bytes_eq}
use Rattle.gdb_questions.specs.declared.question.Question.{Question}
use Rattle.gdb_questions.specs.declared.question.Question.TheVariants.{Features, Halt, SetWatch, ClearWatch, Description, ChooseThread, Change, Detach, Kill, Unknown}
use Rattle.gdb_questions.specs.Questions.{asked_by, changes, monitor_question, pair_in, point_question, thread_question}
use Rattle.gdb_questions.specs.Words.{behind_word}

-- a word that asks about the halt, ends the talk or asks about threads
abbrev pub still_question : List ℕ → Option Question
still_question body =
    if bytes_eq body (codes "?") then Some Halt
    else if bytes_eq body (codes "D") then Some Detach
    else if bytes_eq body (codes "k") then Some Kill
    else thread_question body

-- what isn't served
abbrev pub other_question : List ℕ → Question
other_question body = if changes body then Change else Unknown

-- what is watched
abbrev pub watch_question : List ℕ → Question → Question
watch_question body later =
    asked_by (behind_word (codes "Z2,") body) (pair_in SetWatch)
    (asked_by (behind_word (codes "z2,") body) (pair_in ClearWatch) later)

-- threads and points
abbrev pub later_question : List ℕ → Question
later_question body =
    asked_by (behind_word (codes "H") body) (λ rest. ChooseThread)
    (asked_by (behind_word (codes "T") body) (λ rest. ChooseThread)
    (point_question body (other_question body)))

-- orders and features, or those
abbrev pub query_question : List ℕ → Question
query_question body =
    asked_by (behind_word (codes "qRcmd,") body) monitor_question
    (asked_by (behind_word (codes "qSupported") body) (λ rest. Features) (later_question body))

-- the description, or those
abbrev pub described_question : List ℕ → Question
described_question body =
    asked_by (behind_word (codes "qXfer:features:read:target.xml:") body) (pair_in Description) (query_question body)
