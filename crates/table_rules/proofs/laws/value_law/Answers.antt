use Rattle.table_rules.proofs.LawfulValues.{lawful_value}
use Rattle.table_rules.proofs.laws.value_law.Goals as goal

pub returns : goal.returns
returns c = record {
  lawful = λ kinds level i e least most other none.
      lawful_value c.sound_law.ensures kinds level i e other none;
}
