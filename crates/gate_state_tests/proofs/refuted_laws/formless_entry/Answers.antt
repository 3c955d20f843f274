use Rattle.std.proofs.Common.{sym, ◌∙◌, arith}
use Rattle.std.proofs.lemmas.Bool.{false≢true}
use Rattle.gate_state_tests.proofs.refuted_laws.formless_entry.Goals as goal

pub returns : goal.returns
returns c = record {
  high = λ o s f i admitted guarded inside present is.
      let most = (c.entry_forms_law.ensures.tables o s f i admitted guarded inside (omega (arith, is)) present).0 in
      omega (arith, is, most);
  table = λ o s f i admitted guarded inside table present other.
      false≢true (sym other ∙ (c.entry_forms_law.ensures.tables o s f i admitted guarded inside table present).1);
  slot_link = λ o s f i admitted guarded inside table present other.
      false≢true (sym other ∙ c.entry_forms_law.ensures.slot_links o s f i admitted guarded inside table present);
  slot_leaf = λ o s f i admitted guarded inside table present other.
      false≢true (sym other ∙ c.entry_forms_law.ensures.slot_leaves o s f i admitted guarded inside table present);
}
