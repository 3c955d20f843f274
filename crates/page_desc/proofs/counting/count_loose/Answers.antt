use Rattle.std.proofs.Common.{◌≡◌, length, arith, sym, ap, ◌∙◌, inr}
use Rattle.phys_mem.specs.Memory.{entry_in}
use Rattle.page_desc.specs.FrameCounts.{count_in, holds_leaves, is_loose_leaf, loose_in}
use Rattle.page_desc.proofs.Counts.{count_more, count_most, count_start}
use Rattle.page_desc.proofs.FieldPasses.{differs_none, differs_more, readable_left}
use Rattle.page_desc.proofs.MemoryCounts.{loose_row, marks_left}
use Rattle.page_desc.proofs.counting.count_loose.Goals as goal

pub loop-frame-init : goal.loop-frame-init
loop-frame-init c = record {
  each = λ other inside. c.requires.zero other inside ∙ sym (count_start 512 (holds_leaves c.args.kinds.now (entry_in c.args.mem.now)) (is_loose_leaf other) (entry_in c.args.mem.now));
  differs = differs_none c.args.count 4 c.args.mem.now;
}

pub count_loose_in-requires-clause-readable : goal.count_loose_in-requires-clause-readable
count_loose_in-requires-clause-readable c =
    readable_left c.args.kinds.now c.args.count 4 c.args.mem.now c.loop-frame.mem c.requires.count c.requires.readable c.loop-frame.invariant.differs

pub count_loose_in-requires-clause-room : goal.count_loose_in-requires-clause-room
count_loose_in-requires-clause-room c =
    λ other inside.
    omega (
      arith,
      c.requires.most,
      c.loop-frame-test.true,
      c.loop-frame.invariant.each other inside,
      count_most c.loop-frame.frame 512 (holds_leaves c.args.kinds.now (entry_in c.args.mem.now)) (is_loose_leaf other) (entry_in c.args.mem.now),
    )

pub loop-frame-preserved : goal.loop-frame-preserved
loop-frame-preserved c = record {
  each = λ other inside.
      omega (
        arith,
        c.loop-frame.invariant.each other inside,
        c.count_loose_in.ensures.each other inside,
        loose_row c.args.kinds.now c.args.count 4 c.args.mem.now c.loop-frame.mem c.requires.count c.requires.readable c.loop-frame.invariant.differs c.loop-frame.frame other,
        count_more c.loop-frame.frame 512 (holds_leaves c.args.kinds.now (entry_in c.args.mem.now)) (is_loose_leaf other) (entry_in c.args.mem.now),
      );
  differs = differs_more c.args.count 4 c.args.mem.now c.loop-frame.mem c.count_loose_in.new.mem c.loop-frame.invariant.differs c.count_loose_in.ensures.differs;
}

pub returns-clause-each : goal.returns-clause-each
unfolding loose_in
returns-clause-each c =
    let all : c.loop-frame.frame ≡ length c.args.kinds.now = omega (arith, c.requires.count) in
    λ other inside.
    c.loop-frame.invariant.each other inside
    ∙ ap (λ n. count_in n 512 (holds_leaves c.args.kinds.now (entry_in c.args.mem.now)) (is_loose_leaf other) (entry_in c.args.mem.now)) all

pub count_loose_in-requires-clause-marked : goal.count_loose_in-requires-clause-marked
count_loose_in-requires-clause-marked c =
    c.loop-frame.invariant.differs.others 8 c.loop-frame.frame (inr (omega arith)) (omega arith) c.loop-frame-test.true
    ∙ c.requires.marked c.loop-frame.frame c.loop-frame-test.true
    ∙ sym (marks_left c.args.kinds.now c.args.count 4 c.args.mem.now c.loop-frame.mem c.requires.count c.requires.readable c.loop-frame.invariant.differs c.loop-frame.frame)
