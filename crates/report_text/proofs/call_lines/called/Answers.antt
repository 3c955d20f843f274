use Rattle.std.proofs.Common.{arith, refl}
use Rattle.nk_body.specs.SourceWords.{sourced_of}
use Rattle.report_text.proofs.Known.{err_then}
use Rattle.report_text.proofs.LineParts.{call_parts}
use Rattle.report_text.proofs.TakenUp.{end_cut, first_cut, second_cut, third_cut, went_out}
use Rattle.report_text.proofs.Texts.{rose_before}
use Rattle.report_text.proofs.call_lines.called.Goals as goal

pub returns-in-Err : goal.returns-in-Err
returns-in-Err g c =
    let line = call_parts c.args.call.now (sourced_of c.args.source.now) c.args.answer.now c.call_head.result.now _
    c.call_head.ensures refl in
    record {
      never_falls = c.in-Err.ensures.never_falls;
      failed = c.in-Err.ensures.failed;
      all = tt;
      some = first_cut c.pieces_law.ensures _ _ _ c.call_head.result.now _ _ c.new-pieces.ensures line c.in-Err.ensures.cut;
    }

pub returns-in-Err-take_source : goal.returns-in-Err-take_source
returns-in-Err-take_source g c =
    let line = call_parts c.args.call.now (sourced_of c.args.source.now) c.args.answer.now c.call_head.result.now _
    c.call_head.ensures refl in
    record {
      never_falls = omega (arith, c.in_default.ensures.never_falls, c.in-Err-take_source.ensures.never_falls);
      failed = rose_before _ _ _ c.in_default.ensures.never_falls c.in-Err-take_source.ensures.failed;
      all = tt;
      some = second_cut c.pieces_law.ensures _ _ c.call_head.result.now _ _ _ c.new-pieces.ensures line _ _
          c.in_default.ensures.moved _
          c.in-Err-take_source.ensures.cut;
    }

pub returns-in-Err-push_all : goal.returns-in-Err-push_all
returns-in-Err-push_all g c =
    let line = call_parts c.args.call.now (sourced_of c.args.source.now) c.args.answer.now c.call_head.result.now
    c.call_tail.result.now c.call_head.ensures c.call_tail.ensures in
    record {
      never_falls = omega (
        arith,
        c.in_default.ensures.never_falls,
        c.in_default-take_source.ensures.never_falls,
        c.in-Err-push_all.ensures.never_falls,
      );
      failed = rose_before _ _ _ c.in_default.ensures.never_falls
          (rose_before _ _ _ c.in_default-take_source.ensures.never_falls c.in-Err-push_all.ensures.failed);
      all = tt;
      some = third_cut c.pieces_law.ensures _ _ c.call_head.result.now _ c.call_tail.result.now _ c.new-pieces.ensures
          line _ _
          c.in_default.ensures.moved
          _ _ c.in_default-take_source.ensures.moved _ c.in-Err-push_all.ensures.cut;
    }

pub returns : goal.returns
returns g c =
    let line = call_parts c.args.call.now (sourced_of c.args.source.now) c.args.answer.now c.call_head.result.now
    c.call_tail.result.now c.call_head.ensures c.call_tail.ensures in
    record {
      never_falls = omega (
        arith,
        c.in_default.ensures.never_falls,
        c.in_default-take_source.ensures.never_falls,
        c.in_default-push_all.ensures.never_falls,
        c.finish.ensures.never_falls,
      );
      failed = err_then c.finish.result (λ rose. rose_before _ _ _ c.in_default.ensures.never_falls
          (rose_before _ _ _ c.in_default-take_source.ensures.never_falls
          (rose_before _ _ _ c.in_default-push_all.ensures.never_falls rose))) c.finish.ensures.failed;
      all = went_out c.pieces_law.ensures _ _ c.call_head.result.now _ c.call_tail.result.now _ c.new-pieces.ensures line
          _ _ c.in_default.ensures.moved
          _ _ c.in_default-take_source.ensures.moved _ _ c.in_default-push_all.ensures.moved c.finish.result _ _
          c.finish.ensures.moved c.finish.ensures.none;
      some = end_cut c.pieces_law.ensures _ _ c.call_head.result.now _ c.call_tail.result.now _ c.new-pieces.ensures line
          _ _ c.in_default.ensures.moved
          _ _ c.in_default-take_source.ensures.moved _ _ c.in_default-push_all.ensures.moved c.finish.result _
          c.finish.ensures.cut;
    }
