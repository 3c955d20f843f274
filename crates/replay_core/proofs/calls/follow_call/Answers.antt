use Rattle.std.proofs.Common.{◌≤◌, Option, ℕ, IfSome, length, subst, sym}
use Rattle.nk_body.specs.Calls.{call_of}
use Rattle.nk_body.specs.NestedRecord.{books_in}
use Rattle.replay_core.proofs.WantedBytes.{wants_most}
use Rattle.replay_core.proofs.calls.follow_call.Goals as goal

pub is_taken-requires : goal.is_taken-requires
is_taken-requires c = record {
  room = subst (λ (wanted : Option ℕ). IfSome wanted (λ count. count ≤ length c.args.buffer.now))
      (sym c.wants-wanted.ensures)
      (wants_most (books_in c.args.kernel.now c.args.mem.now).ledger.book (call_of c.args.noted.now.call)
      (length c.args.buffer.now) c.requires.books.books.kept.book c.requires.room);
}
