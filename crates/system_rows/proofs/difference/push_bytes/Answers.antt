use Rattle.std.proofs.Common.{arith}
use Rattle.system_rows.proofs.Compared.{same_number}
use Rattle.system_rows.proofs.difference.push_bytes.Goals as goal

pub returns : goal.returns
returns c none =
    let kept = c.loop-place.invariant.same none in
    let ends = c.loop-place.invariant.ends in
    let past = c.loop-place-test.false in (
      kept.0,
      same_number c.args.machine.now.wanted.bytes c.args.machine.now.found.bytes 8 c.args.from
          (λ k from below. kept.1 k from (omega (arith, below, ends, past))),
    )
