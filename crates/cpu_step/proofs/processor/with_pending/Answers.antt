use Rattle.std.proofs.Common.{◌≡◌, ◌-◌, ◌<◌, ◌^◌, ap, ◌∙◌, arith}
use Rattle.x86_alu.specs.Flags.{with_flag}
use Rattle.cpu_step.proofs.PendingVectors.{pending_changed}
use Rattle.cpu_step.proofs.processor.with_pending.Goals as goal

pub overflow_cast-result : goal.overflow_cast-result
overflow_cast-result c =
    let left : with_flag (c.args.vector - 32) c.args.waits c.args.pending < 2 ^ 16 =
    pending_changed c.args.pending (c.args.vector - 32) c.args.waits (omega (arith, c.ranges.pending.fits)) (omega (arith, c.requires)) in
    let is : c.with_flag.result ≡ with_flag (c.args.vector - 32) c.args.waits c.args.pending =
    c.with_flag.ensures ∙ ap (with_flag (c.args.vector - 32) c.args.waits) c.from.ensures in
    omega (arith, left, is)
