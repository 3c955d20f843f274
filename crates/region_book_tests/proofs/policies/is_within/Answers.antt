use Rattle.std.proofs.Common.{◌/◌, arith, length, sym, ◌∙◌}
use Rattle.region_book.specs.RegionBytes.{book_in}
use Rattle.region_book_tests.proofs.PoolFrames.{shown_aside, shown_frames}
use Rattle.region_book_tests.proofs.policies.is_within.Goals as goal

pub returns-in-Some-clause-within : goal.returns-in-Some-clause-within
returns-in-Some-clause-within c = λ pooled.
    shown_frames (book_in c.args.regions.now c.args.mem.now) c.args.id (length c.args.mem.now) c.in-Some.region c.requires.book
    (sym c.find.ensures ∙ c.in-Some.is) pooled (omega (arith, c.requires.held.size))

pub returns-in-Some-clause-apart : goal.returns-in-Some-clause-apart
returns-in-Some-clause-apart c = λ pooled.
    shown_aside (book_in c.args.regions.now c.args.mem.now) c.args.id (length c.args.mem.now / 4096) c.in-Some.region c.requires.book
    (sym c.find.ensures ∙ c.in-Some.is) pooled
