-- Two numbers, as what is asked takes them.
use Rattle.std.specs.Prelude.{ℕ, Option, None, Some}
use Rattle.gdb_questions.specs.declared.question.Question.{Question}
use Rattle.gdb_questions.specs.declared.question.Question.TheVariants.{Unknown}

-- what is asked with these numbers, where there are two
abbrev pub asked_with : (ℕ → ℕ → Question) → Option (ℕ × ℕ) → Question
asked_with question (Some pair) = question pair.0 pair.1
asked_with question None = Unknown
