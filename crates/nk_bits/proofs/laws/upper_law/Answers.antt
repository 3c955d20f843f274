use Rattle.nk_bits.proofs.UpperLaws.{upper_past, upper_missing, upper_end, walks_on, upper_in_memory, upper_same_span, slot_same_span, span_of_first_page, covers_says, walk_by_none}
use Rattle.nk_bits.proofs.laws.upper_law.Goals as goal

pub returns : goal.returns
returns c = record {
  past = upper_past;
  missing = upper_missing;
  end = upper_end;
  walks = walks_on;
  in_memory = upper_in_memory;
  same_span = upper_same_span;
  same_slot = slot_same_span;
  first_page = span_of_first_page;
  covers = covers_says;
  none = walk_by_none;
}
