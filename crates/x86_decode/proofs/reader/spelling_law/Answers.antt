use Rattle.x86_decode.proofs.Answers.{one_spelling}
use Rattle.x86_decode.proofs.FieldLaws.{FieldLaws}
use Rattle.x86_decode.proofs.Forms.{well_formed}
use Rattle.x86_decode.proofs.Law.{law}
use Rattle.x86_decode.proofs.reader.spelling_law.Goals as goal

pub returns : goal.returns
returns c =
    let laws : FieldLaws = record { prefixes = c.prefixes_law.ensures; longer = c.longer_law.ensures } in
    record {
      one = λ instr other bytes more s t. one_spelling laws instr other bytes more s t;
      formed = λ instr bytes s. well_formed instr bytes s;
      protected = λ instr bytes s protected. law laws instr bytes s protected;
    }
