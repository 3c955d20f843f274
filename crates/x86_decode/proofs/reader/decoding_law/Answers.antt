use Rattle.x86_decode.proofs.Answers.{answer_only, answer_right}
use Rattle.x86_decode.proofs.FieldLaws.{FieldLaws}
use Rattle.x86_decode.proofs.reader.decoding_law.Goals as goal

pub returns : goal.returns
returns c =
    let laws : FieldLaws = record { prefixes = c.prefixes_law.ensures; longer = c.longer_law.ensures } in
    record {
      right = λ bytes are few. answer_right laws bytes are few;
      only = λ bytes other are few d. answer_only laws bytes other are few d;
    }
