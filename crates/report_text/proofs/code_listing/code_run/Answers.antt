use Rattle.std.proofs.Common.{◌+◌, [], ◌∷◌, ap, arith, length, length-append, sym, ◌∙◌}
use Rattle.byte_scanner.specs.ImageCode.{code_at}
use Rattle.report_text.proofs.CodeRuns.{run_ends, run_on, run_stops}
use Rattle.report_text.proofs.code_listing.code_run.Goals as goal

pub returns-in_default-clause-bytes : goal.returns-in_default-clause-bytes
returns-in_default-clause-bytes c =
    let place = ap (λ n. c.args.address + n) c.len-in-loop-run.ensures.value in
    run_stops c.args.image.now c.args.address c.loop-run.run.items c.loop-run.invariant.so_far
    (ap (code_at c.args.image.now) (sym place) ∙ (sym c.code_byte.ensures.value ∙ c.in_default.is))

pub loop-run-preserved : goal.loop-run-preserved
loop-run-preserved c =
    let run = c.loop-run.run.items in
    let place = ap (λ n. c.args.address + n) c.len-in-loop-run.ensures.value in
    let pushed = c.push.ensures.items in
    let longer = ap length pushed ∙ length-append run (c.in-Some.byte ∷ []) in
    record {
      so_far = run_on c.args.image.now c.args.address run c.loop-run.invariant.so_far c.in-Some.byte c.push.new.self.items
          (omega arith)
          (ap (code_at c.args.image.now) (sym place) ∙ (sym c.code_byte.ensures.value ∙ c.in-Some.is)) pushed;
      few = omega (arith, longer);
      inside = omega (arith, longer, c.in-Some.ensures.inside, c.len-in-loop-run.ensures.value);
    }

pub returns-clause-bytes : goal.returns-clause-bytes
returns-clause-bytes c =
    run_ends c.args.image.now c.args.address c.loop-run.run.items c.loop-run.invariant.so_far (omega arith)
