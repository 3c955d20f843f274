use Rattle.std.proofs.Common.{arith, refl}
use Rattle.region_book.proofs.EmptyBook.{none_held}
use Rattle.region_book.proofs.regions.Regions.start.Goals as goal

pub returns-clause-held : goal.returns-clause-held
returns-clause-held c =
    none_held c.clear_books.new.mem (omega (arith, c.requires.size, c.clear_books.ensures.elsewhere.size))
    c.clear_books.ensures.zero _ c.new.ensures refl
