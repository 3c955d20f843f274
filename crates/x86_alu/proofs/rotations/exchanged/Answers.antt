use Rattle.std.proofs.Common.{arith}
use Rattle.x86_alu.proofs.Turns.{exchanged-by_shifts, shifts-Below}
use Rattle.x86_alu.proofs.rotations.exchanged.Goals as goal

pub overflow_add-result : goal.overflow_add-result
overflow_add-result c =
    let below = shifts-Below c.args.width c.args.a c.args.places c.requires.fits c.requires.places (grind arith) in
    omega arith

pub overflow_cast-result-3 : goal.overflow_cast-result-3
overflow_cast-result-3 c =
    let below = shifts-Below c.args.width c.args.a c.args.places c.requires.fits c.requires.places (grind arith) in
    omega arith

pub returns : goal.returns
returns c = exchanged-by_shifts c.args.width c.args.a c.args.places c.requires.places (grind arith)
