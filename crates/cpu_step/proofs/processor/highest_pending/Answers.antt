use Rattle.std.proofs.Common.{◌≡◌, ◌<◌, ◌^◌, false, ap, ◌∙◌, arith}
use Rattle.x86_alu.specs.Scans.{scanned}
use Rattle.x86_alu.specs.SignedNumbers.{cut}
use Rattle.cpu_step.proofs.PendingVectors.{highest_bounds}
use Rattle.cpu_step.proofs.processor.highest_pending.Goals as goal

pub returns-else-pending-eq0-clause-bounds : goal.returns-else-pending-eq0-clause-bounds
returns-else-pending-eq0-clause-bounds c =
    let small : c.args.pending < 2 ^ 16 = omega (arith, c.ranges.pending.fits) in
    let same : cut 64 c.args.pending ≡ c.args.pending = omega (arith, small) in
    let is : c.scan_bit-place.result.value ≡ scanned false c.args.pending =
    c.scan_bit-place.ensures.value ∙ ap (scanned false) (ap (cut 64) c.from.ensures ∙ same) in
    (omega arith, omega (arith, is, highest_bounds c.args.pending small c.if-pending-eq0.false))
