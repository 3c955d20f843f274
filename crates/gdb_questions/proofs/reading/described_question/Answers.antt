use Rattle.std.proofs.Common.{◌∙◌, ap}
use Rattle.gdb_questions.specs.declared.question.Question.TheVariants.{Description}
use Rattle.gdb_questions.specs.QuestionEnds.{query_question}
use Rattle.gdb_questions.specs.Questions.{asked_by, pair_in}
use Rattle.gdb_questions.proofs.reading.described_question.Goals as goal

pub returns-in-None : goal.returns-in-None
returns-in-None c =
    let later = query_question c.args.body.now in
    c.query_question.ensures ∙ ap (λ rest. asked_by rest (pair_in Description) later) c.in-None.ensures
