use Rattle.std.proofs.Common.{◌≡◌, ◌+◌, ◌*◌, ◌≤◌, length}
use Rattle.nk_body.specs.NestedRecord.{HoldsBooks, books_in}
use Rattle.replay_core.specs.ReplayedCalls.{replay_from, replay_of, standing_held}
use Rattle.replay_core.proofs.LineSizes.{size_of}
use Rattle.text_lines.specs.TextLines.{lines}
use Rattle.replay_core.proofs.calls.replay_lines.Given as goal

abbrev pub invariant-loop-rest : goal.invariant-loop-rest
invariant-loop-rest l = record {
  whole : replay_of l.journal (standing_held l.fn.kernel l.fn.mem)
      ≡ replay_from l.number (lines l.rest) (standing_held l.kernel l.mem);
  books : HoldsBooks l.kernel l.mem;
  next : 2 * (books_in l.kernel l.mem).ledger.book.next + size_of (lines l.rest) ≤ 513 + length l.journal;
  number : l.number + length l.rest ≤ 1 + length l.journal;
  size : length l.mem ≡ length l.fn.mem;
  room : 65536 ≤ length l.buffer;
}

abbrev pub decreases-loop-rest : goal.decreases-loop-rest
decreases-loop-rest l = length l.rest
