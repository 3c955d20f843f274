use Rattle.std.proofs.Common.{arith, ap, refl, ◌∙◌}
use Rattle.replay_core.proofs.LineSizes.{size_lines, size_of}
use Rattle.replay_core.proofs.Replaying.{begins, next_line, no_line}
use Rattle.replay_core.specs.declared.calls.Step.TheVariants.{Goes, Ends, Stops}
use Rattle.replay_core.specs.ReplayedCalls.{replay_of, standing_held}
use Rattle.replay_core.proofs.calls.replay_lines.Goals as goal

pub loop-rest-init : goal.loop-rest-init
loop-rest-init c =
    let size = size_lines c.args.journal.now in
    let next = ap (λ ledger. ledger.book.next) c.requires.ledger in
    record {
      whole = begins c.args.journal.now (standing_held c.args.kernel.now c.args.mem.now);
      books = c.requires.books;
      next = omega arith;
      number = omega arith;
      size = refl;
      room = c.requires.room;
    }

pub returns-in-Ends-clause-replay : goal.returns-in-Ends-clause-replay
returns-in-Ends-clause-replay c =
    next_line (replay_of c.args.journal.now (standing_held c.args.kernel.now c.args.mem.now)) c.loop-rest.number
    (standing_held c.loop-rest.kernel c.loop-rest.mem) (standing_held c.follow_line.new.kernel c.follow_line.new.mem)
    c.loop-rest.rest.now c.cut_line.result.0.now c.cut_line.result.1.now Ends
    c.loop-rest.invariant.whole c.cut_line.ensures.lines c.in-Ends.ensures.step

pub returns-in-Stops-clause-replay : goal.returns-in-Stops-clause-replay
returns-in-Stops-clause-replay c =
    next_line (replay_of c.args.journal.now (standing_held c.args.kernel.now c.args.mem.now)) c.loop-rest.number
    (standing_held c.loop-rest.kernel c.loop-rest.mem) (standing_held c.follow_line.new.kernel c.follow_line.new.mem)
    c.loop-rest.rest.now c.cut_line.result.0.now c.cut_line.result.1.now Stops
    c.loop-rest.invariant.whole c.cut_line.ensures.lines c.in-Stops.ensures.step

pub loop-rest-preserved : goal.loop-rest-preserved
loop-rest-preserved c =
    let size = ap size_of c.cut_line.ensures.lines in
    record {
      whole =
          next_line (replay_of c.args.journal.now (standing_held c.args.kernel.now c.args.mem.now)) c.loop-rest.number
          (standing_held c.loop-rest.kernel c.loop-rest.mem) (standing_held c.follow_line.new.kernel c.follow_line.new.mem)
          c.loop-rest.rest.now c.cut_line.result.0.now c.cut_line.result.1.now Goes
          c.loop-rest.invariant.whole c.cut_line.ensures.lines c.in-Goes.ensures.step;
      books = c.follow_line.ensures.books;
      next = omega (arith, size);
      number = omega arith;
      size = c.follow_line.ensures.size ∙ c.loop-rest.invariant.size;
      room = omega arith;
    }

pub returns-clause-replay : goal.returns-clause-replay
returns-clause-replay c =
    no_line (replay_of c.args.journal.now (standing_held c.args.kernel.now c.args.mem.now)) c.loop-rest.number
    (standing_held c.loop-rest.kernel c.loop-rest.mem) c.loop-rest.rest.now
    c.loop-rest.invariant.whole c.loop-rest-test.ensures
