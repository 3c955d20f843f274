use Rattle.std.proofs.Common.{arith}
use Rattle.std.proofs.lemmas.Result.{err_from_is_err_and}
use Rattle.nk_host.proofs.Passed.{more_out, cut_in_two, prefix_out}
use Rattle.nk_host.proofs.pieces.put_all.Goals as goal

pub loop-rest-preserved : goal.loop-rest-preserved
loop-rest-preserved g c =
    let cut = cut_in_two _ _ _ _ c.split_at.ensures.front c.split_at.ensures.back in
    record { out = more_out _ _ _ _ _ _ _ c.loop-rest.invariant.out cut c.in_ok-put.ensures.put.all; counted = omega arith }

pub returns-in_err-put-clause-put : goal.returns-in_err-put-clause-put
returns-in_err-put-clause-put g c =
    let p = err_from_is_err_and c.from_residual.result c.from_residual.ensures.1 in
    let cut = cut_in_two _ _ _ _ c.split_at.ensures.front c.split_at.ensures.back in
    rw p.1 (record {
      never_falls = omega (arith, c.loop-rest.invariant.counted, c.in_err-put.ensures.put.never_falls);
      failed = omega (arith, c.loop-rest.invariant.counted, c.in_err-put.ensures.put.failed);
      all = tt;
      some = prefix_out _ _ _ _ _ _ _ c.loop-rest.invariant.out cut c.in_err-put.ensures.put.some;
    })
