use Rattle.std.proofs.Common.{◌+◌, ◌*◌, ◌≤◌, length, replicate, arith, ◌∙◌, ap}
use Rattle.phys_mem.specs.Memory.{frame_zeroed}
use Rattle.phys_mem.proofs.Patches.{with_run-zeroed, length-put}
use Rattle.phys_mem.proofs.memory.PhysMem.zero_frame.Goals as goal

pub returns-clause-zeroed : goal.returns-clause-zeroed
unfolding frame_zeroed
returns-clause-zeroed c =
    let m = c.args.self.now in let start = 4096 * c.args.frame in
    let fits : start + 4096 ≤ length m = omega (arith, ap length c.self.view_is) in
    let zeros = c.fill.ensures.after (λ y e. e) ∙ ap (λ n. replicate n 0) c.run_mut-bytes.ensures.length in
    with_run-zeroed _ m _ start 4096 _ c.self.view_is c.start_of.ensures zeros fits

pub returns-clause-length : goal.returns-clause-length
returns-clause-length c =
    let starts : c.start_of.result ≤ length c.args.self.now = omega arith in
    length-put _ c.args.self.now c.start_of.result _ c.self.view_is starts
