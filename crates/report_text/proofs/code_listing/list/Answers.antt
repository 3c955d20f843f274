use Rattle.std.proofs.Common.{◌+◌, ap, arith, length, subst, sym, ◌∙◌}
use Rattle.std.proofs.lemmas.Bool.{eqb-true}
use Rattle.std.specs.Io.KnownBytes.{Appends}
use Rattle.nk_host.specs.Taken.{AppendsPrefix}
use Rattle.x86_decode.specs.Reader.{decoded_of}
use Rattle.report_text.specs.ListingLines.{found_size}
use Rattle.report_text.proofs.CodeRuns.{found_within}
use Rattle.report_text.proofs.Known.{on_ok}
use Rattle.report_text.proofs.ListedCode.{list_ends, list_goes_on, list_stops, list_was_cut, same_line, some_run}
use Rattle.report_text.proofs.Texts.{later_cut, whole_put}
use Rattle.report_text.proofs.code_listing.list.Goals as goal

pub returns-then-is_empty : goal.returns-then-is_empty
returns-then-is_empty g c =
    let none = eqb-true (length c.code_run-run.result.items) 0 (sym c.is_empty.ensures ∙ c.if-is_empty.true) in
    whole_put g.O.Sink.taken g.O.Sink.faults _ _ _ c.loop-i.invariant.going.never_fell
    (list_stops g.O.Sink.taken g.O.Sink.faults _ _ c.args.image.now c.args.address c.args.count c.loop-i.i c.loop-i.at
    c.loop-i.invariant.going (ap length (sym c.code_run-run.ensures.bytes) ∙ none))

pub returns-in-Err : goal.returns-in-Err
returns-in-Err g c =
    let run = c.code_run-run.result.items in
    let some = some_run run (sym c.is_empty.ensures ∙ c.if-is_empty.false) in
    let said = c.decode-found.ensures.value ∙ ap decoded_of c.as_slice.ensures.value in
    let line = same_line c.loop-i.at run c.as_slice-in-loop-i.result.now c.decode-found.result
    c.as_slice-in-loop-i.ensures.value said in
    later_cut g.O.Sink.taken g.O.Sink.faults _ _ _ _ _ c.loop-i.invariant.going.never_fell c.in-Err.ensures
    (list_was_cut g.O.Sink.taken g.O.Sink.faults _ _ c.args.image.now c.args.address c.args.count c.loop-i.i c.loop-i.at
    c.loop-i.invariant.going run c.code_run-run.ensures.bytes c.loop-i-test.true some c.put_found.new.sink
    (subst (AppendsPrefix (g.O.Sink.taken c.loop-i.sink) (g.O.Sink.taken c.put_found.new.sink)) line
    c.in-Err.ensures.some))

pub loop-i-preserved : goal.loop-i-preserved
loop-i-preserved g c =
    let run = c.code_run-run.result.items in
    let some = some_run run (sym c.is_empty.ensures ∙ c.if-is_empty.false) in
    let said = c.decode-found.ensures.value ∙ ap decoded_of c.as_slice.ensures.value in
    let line = same_line c.loop-i.at run c.as_slice-in-loop-i.result.now c.decode-found.result
    c.as_slice-in-loop-i.ensures.value said in
    let within = found_within c.as_slice.result.now c.decode-found.result c.decode-found.ensures.right
    (omega (arith, some, ap length c.as_slice.ensures.value)) in
    record {
      going = list_goes_on g.O.Sink.taken g.O.Sink.faults _ _ c.args.image.now c.args.address c.args.count c.loop-i.i
          c.loop-i.at c.loop-i.invariant.going run c.code_run-run.ensures.bytes c.loop-i-test.true some
          c.put_found.new.sink (c.loop-i.at + c.found_size-at.result)
          (subst (Appends (g.O.Sink.taken c.loop-i.sink) (g.O.Sink.taken c.put_found.new.sink)) line
          (on_ok c.in_default.is c.put_found.ensures.all))
          c.put_found.ensures.never_falls
          (ap (λ n. c.loop-i.at + n) (c.found_size-at.ensures ∙ ap found_size said));
      inside = omega (
        arith,
        c.code_run-run.ensures.inside,
        within,
        c.found_size-at.ensures,
        ap length c.as_slice.ensures.value,
      );
    }

pub returns : goal.returns
returns g c =
    whole_put g.O.Sink.taken g.O.Sink.faults _ _ _ c.loop-i.invariant.going.never_fell
    (list_ends g.O.Sink.taken g.O.Sink.faults _ _ c.args.image.now c.args.address c.args.count c.loop-i.i c.loop-i.at
    c.loop-i.invariant.going (omega arith))
