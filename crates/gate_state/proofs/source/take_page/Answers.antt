use Rattle.std.proofs.Common.{◌≡◌, ◌+◌, ◌-◌, ◌%◌, ◌++◌, ap, arith, drop, take, ◌∙◌}
use Rattle.std.specs.Prelude.{if◌then◌else◌}
use Rattle.std.specs.Result.{is_ok}
use Rattle.gate_state.proofs.SourceRuns.{frame_run}
use Rattle.gate_state.proofs.source.take_page.Goals as goal

pub returns-clause-bytes : goal.returns-clause-bytes
returns-clause-bytes c =
    let first = c.args.at % 4096 in
    let n = c.min-count.result in
    let run : first + n - first ≡ n = omega arith in
    c.extend_from_slice.ensures.items
    ∙ ap (λ r. if is_ok r then c.args.into.now.items ++ take (first + n - first) (drop first c.frame-page.result.now) else c.args.into.now.items)
    c.unwrap.ensures
    ∙ ap (λ k. c.args.into.now.items ++ take k (drop first c.frame-page.result.now)) run
    ∙ ap (λ page. c.args.into.now.items ++ take n (drop first page)) c.frame-page.ensures.bytes
    ∙ ap (λ bytes. c.args.into.now.items ++ bytes) (frame_run c.args.mem.now c.args.leaf.frame first n (omega arith))
