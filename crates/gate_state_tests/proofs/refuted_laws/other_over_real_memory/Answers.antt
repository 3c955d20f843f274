use Rattle.gate_state_tests.proofs.refuted_laws.other_over_real_memory.Goals as goal

pub returns : goal.returns
returns c = record {
  processor = λ o s m admitted takes guarded seen other.
      other (c.masked_law.ensures.turn o s m admitted takes guarded seen).0;
  shown = λ o s m admitted takes guarded seen other.
      other (c.masked_law.ensures.turn o s m admitted takes guarded seen).1;
  memory = λ o s m admitted takes guarded seen other.
      other (c.masked_law.ensures.turn o s m admitted takes guarded seen).2;
  books = λ o s m place admitted takes guarded seen book other.
      other (c.masked_law.ensures.stays o s m place admitted takes guarded seen book);
  stores = λ o s m admitted takes guarded seen other.
      other (c.masked_law.ensures.stores o s m admitted takes guarded seen);
  fetch = λ o s m admitted guarded seen other.
      other (c.masked_law.ensures.fetch o s m admitted guarded seen);
  event = λ o s m what admitted guarded seen other.
      other (c.masked_law.ensures.event o s m what admitted guarded seen);
  source = λ o s m va count admitted guarded seen other.
      other (c.masked_law.ensures.source o s m va count admitted guarded seen);
}
