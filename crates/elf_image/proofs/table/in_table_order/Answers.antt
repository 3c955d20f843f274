use Rattle.std.proofs.Common.{◌≡◌, ◌==◌, ◌∙◌, ℕ, Option, ap, arith}
use Rattle.std.specs.Prelude.{filter_map, find}
use Rattle.std.specs.List.{range_with_len}
use Rattle.arrayvec.specs.ArrayVec.{array_vec_len}
use Rattle.elf_image.specs.declared.program_header.ProgramHeader.{ProgramHeader}
use Rattle.elf_image.specs.Loaded.{in_table_order}
use Rattle.elf_image.proofs.TableOrder.{none_found, one_found}
use Rattle.elf_image.proofs.table.in_table_order.Goals as goal
use Rattle.elf_image.proofs.table.in_table_order.Goals.{in-Some, in_default}

pub loop-index-preserved : goal.loop-index-preserved
loop-index-preserved c =
    let h : ℕ → Option ProgramHeader = λ i. find (λ s. s.index == i) c.args.segments.now in
    elim c.match-at_index.branch [
      | in-Some w ↦ (
        one_found h c.loop-index.index _ _ w.in-Some.segment c.loop-index.invariant.0 (cc (c.at_index.ensures, w.in-Some.is)) (cc (w.found-is, w.push.ensures.items)),
        omega (arith, ap array_vec_len w.found-is, w.push.ensures.len, c.loop-index.invariant.1),
      )
      | in_default w ↦ (
        none_found h c.loop-index.index _ _ c.loop-index.invariant.0 (cc (c.at_index.ensures, w.in_default.is)) (cc w.found-is),
        omega (arith, ap array_vec_len w.found-is, c.loop-index.invariant.1),
      )
    ]

pub returns : goal.returns
unfolding in_table_order
returns c =
    let h : ℕ → Option ProgramHeader = λ i. find (λ s. s.index == i) c.args.segments.now in
    let e : c.loop-index.index ≡ 64 = omega (arith, c.loop-index.auto.index-end, c.loop-index-test.false) in
    c.loop-index.invariant.0 ∙ ap (λ n. filter_map h (range_with_len 0 n)) e
