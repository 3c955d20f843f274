use Rattle.std.proofs.Common.{arith}
use Rattle.elf_image.specs.Pages.{page_count}
use Rattle.byte_scanner.proofs.WalkedPages.{all_walked, nothing_walked, passed_over, walked_ahead, walked_on}
use Rattle.byte_scanner.proofs.laws.page_pieces_law.Goals as goal

pub returns : goal.returns
returns c = record {
  begun = nothing_walked;
  ahead = walked_ahead;
  passed = passed_over;
  fed = λ b s after i bytes found pages. walked_on b pages s after i bytes found;
  all = λ b s pages. all_walked b pages s (page_count b) (omega arith);
}
