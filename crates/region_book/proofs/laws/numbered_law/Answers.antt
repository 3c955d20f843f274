use Rattle.region_book.proofs.NumberedBooks.{before_added, before_let_go, before_written, number_is}
use Rattle.region_book.proofs.laws.numbered_law.Goals as goal

pub returns : goal.returns
returns c = record {
  number = λ index m held book. number_is index m held book;
  added = λ book r pages id later. before_added book r pages id later;
  let_go = λ book id other sound free. before_let_go book other sound id free;
  written = λ book id other offset count r sound found. before_written book other sound id offset count r found;
}
