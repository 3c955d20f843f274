use Rattle.std.proofs.Common.{sym, ◌∙◌}
use Rattle.std.proofs.lemmas.Bool.{false≢true}
use Rattle.gate_state_tests.proofs.refuted_laws.otherwise_hidden.Goals as goal

pub returns : goal.returns
returns c = record {
  beside = λ o s f admitted guarded inside hidden other.
      false≢true (sym other ∙ c.hidden_law.ensures.hidden o s f admitted guarded inside hidden);
  seen = λ o s f admitted guarded book other. other (c.hidden_law.ensures.books o s f admitted guarded book);
}
