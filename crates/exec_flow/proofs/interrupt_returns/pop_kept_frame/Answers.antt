use Rattle.std.proofs.Common.{ℕ, ◌+◌, length, arith}
use Rattle.page_walk.specs.MemoryAccess.{view_of}
use Rattle.exec_flow.proofs.KeptFrames.{frame_kept, popped_kept}
use Rattle.exec_flow.proofs.interrupt_returns.pop_kept_frame.Goals as goal

pub returns-in-Some : goal.returns-in-Some
returns-in-Some c =
    let m = c.args.mem.now in
    let place : ℕ = c.in-Some.place in
    let there = popped_kept c.one_page_law.ensures.value (length m) m c.args.control.now c.args.tlb.now c.args.regs.now place (omega arith) c.in-Some.ensures in
    frame_kept m (view_of m c.args.control.now c.args.regs.now.cpl) c.args.regs.now c.args.tlb.now _ _ _ _ _
    (there 0 place c.kept_number.result (omega arith) (omega arith) c.kept_number.ensures.value)
    (there 1 (place + 8) c.kept_number-in-Some.result (omega arith) (omega arith) c.kept_number-in-Some.ensures.value)
    (there 2 (place + 16) c.kept_number-in-Some-2.result (omega arith) (omega arith) c.kept_number-in-Some-2.ensures.value)
    (there 3 (place + 24) c.kept_number-in-Some-3.result (omega arith) (omega arith) c.kept_number-in-Some-3.ensures.value)
    (there 4 (place + 32) c.kept_number-in-Some-4.result (omega arith) (omega arith) c.kept_number-in-Some-4.ensures.value)
