use Rattle.std.proofs.Common.{inl}
use Rattle.region_book_tests.proofs.tests.declared.begin.Goals as goal

pub returns-then-is_slot_fixed-are_books_hidden-clause-regions :
    goal.returns-then-is_slot_fixed-are_books_hidden-clause-regions
returns-then-is_slot_fixed-are_books_hidden-clause-regions c =
    (c.held_regions_law.ensures.agree c.args.regions.now c.args.mem.now c.start.new.mem c.requires.regions
    c.start.ensures.elsewhere.size
    (λ p low high. c.start.ensures.elsewhere.elsewhere p (inl high))).1
