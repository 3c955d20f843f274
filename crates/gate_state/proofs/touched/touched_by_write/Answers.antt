use Rattle.std.proofs.Common.{◌+◌, ◌≤◌, arith}
use Rattle.gate_state.proofs.WritesTouched.{write_ends}
use Rattle.gate_state.proofs.touched.touched_by_write.Goals as goal

pub overflow_add-last : goal.overflow_add-last
overflow_add-last c =
    let ends : c.args.offset + c.args.count ≤ 65536 =
    write_ends c.args.kernel.now c.args.mem.now c.regions-regions.result.now c.args.region c.args.offset c.args.count
    c.fits.result c.requires.books c.regions-regions.ensures c.fits.ensures c.if-not-fits.false in
    omega (arith, ends)

pub overflow_cast-offset : goal.overflow_cast-offset
overflow_cast-offset c =
    let ends : c.args.offset + c.args.count ≤ 65536 =
    write_ends c.args.kernel.now c.args.mem.now c.regions-regions.result.now c.args.region c.args.offset c.args.count
    c.fits.result c.requires.books c.regions-regions.ensures c.fits.ensures c.if-not-fits.false in
    omega (arith, ends)

pub overflow_cast-last : goal.overflow_cast-last
overflow_cast-last c =
    let ends : c.args.offset + c.args.count ≤ 65536 =
    write_ends c.args.kernel.now c.args.mem.now c.regions-regions.result.now c.args.region c.args.offset c.args.count
    c.fits.result c.requires.books c.regions-regions.ensures c.fits.ensures c.if-not-fits.false in
    omega (arith, ends)
