use Rattle.std.proofs.Common.{◌≡◌, sym, ◌∙◌, ap, arith}
use Rattle.std.specs.Prelude.{filter}
use Rattle.std.specs.List.{range_with_len}
use Rattle.arrayvec.specs.ArrayVec.{array_vec_len}
use Rattle.boot_map.specs.Division.{is_touched, ranges_of}
use Rattle.boot_map.proofs.PlaceLaws.{one_more, none_more}
use Rattle.boot_map.proofs.image_pages.touched_ranges.Goals as goal
use Rattle.boot_map.proofs.image_pages.touched_ranges.Goals.{then-is_touched, else-is_touched}

pub loop-range-preserved : goal.loop-range-preserved
loop-range-preserved c =
    elim c.if-is_touched.branch [
      | then-is_touched w ↦ (
        one_more (is_touched c.args.image.now) c.loop-range.range _ _ c.loop-range.invariant.0 (sym c.is_touched.ensures ∙ w.if-is_touched.true) (ap (λ v. v.items) w.touched-is ∙ w.push.ensures.items),
        omega (arith, ap array_vec_len w.touched-is, w.push.ensures.len),
      )
      | else-is_touched w ↦ (
        none_more (is_touched c.args.image.now) c.loop-range.range _ _ c.loop-range.invariant.0 (sym c.is_touched.ensures ∙ w.if-is_touched.false) (ap (λ v. v.items) w.touched-is),
        omega (arith, ap array_vec_len w.touched-is),
      )
    ]

pub returns : goal.returns
unfolding ranges_of
returns c =
    let all : c.loop-range.range ≡ 512 = omega arith in
    c.loop-range.invariant.0 ∙ ap (λ n. filter (is_touched c.args.image.now) (range_with_len 0 n)) all
