use Rattle.nk_bits.proofs.SpanLaws.{canonical_first, canonical_next}
use Rattle.nk_bits.proofs.laws.span_law.Goals as goal

pub returns : goal.returns
returns c = record {
  first = canonical_first;
  next = canonical_next;
}
