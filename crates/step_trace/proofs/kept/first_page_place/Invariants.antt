-- What is still to be looked at tells it.
use Rattle.std.proofs.Common.{◌≡◌, drop, is_none}
use Rattle.nk_bits.specs.Translations.{look}
use Rattle.step_trace.proofs.kept.first_page_place.Given as goal

abbrev pub invariant-loop-i : goal.invariant-loop-i
invariant-loop-i l = is_none (look l.pairs l.page) ≡ is_none (look (drop l.i l.pairs) l.page)
