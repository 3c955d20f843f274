use Rattle.std.proofs.Common.{◌∙◌, arith, take-append-drop, sym, append-nil}
use Rattle.std.proofs.lemmas.Result.{err_from_is_err_and}
use Rattle.nk_host.proofs.Passed.{more_out, prefix_out}
use Rattle.nk_host.proofs.whole.write_whole.Goals as goal

pub loop-rest-preserved : goal.loop-rest-preserved
loop-rest-preserved g c =
    let rest = c.loop-rest.rest.now in
    record { out = rw c.split_at.ensures.back (more_out _ rest _ _ _ _ _ c.loop-rest.invariant.out (sym (take-append-drop c.in_ok-count.count rest)) c.in_ok-count.ensures.ok); counted = c.in_ok-count.ensures.kept ∙ c.loop-rest.invariant.counted }

pub returns-in_err-count-clause-put : goal.returns-in_err-count-clause-put
returns-in_err-count-clause-put g c =
    let p = err_from_is_err_and c.from_residual.result c.from_residual.ensures.1 in
    rw p.1 (record {
      never_falls = omega (arith, c.loop-rest.invariant.counted, c.in_err-count.ensures.never_falls);
      failed = omega (arith, c.loop-rest.invariant.counted, c.in_err-count.ensures.failed);
      all = tt;
      some = prefix_out _ _ c.loop-rest.rest.now _ _ _ _ c.loop-rest.invariant.out (sym (append-nil _))
          (0, omega arith, c.in_err-count.ensures.err);
    })
