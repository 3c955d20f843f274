use Rattle.region_book.proofs.RegionsKept.{book_same, change_unseen, held_same}
use Rattle.region_book.proofs.laws.held_regions_law.Goals as goal

pub returns : goal.returns
returns c = record {
  agree = λ index m n held size same. (book_same index m n held size same, held_same index m n held size same);
  unseen = λ m n room differs. change_unseen c.mask_law.ensures.alike m n differs;
}
