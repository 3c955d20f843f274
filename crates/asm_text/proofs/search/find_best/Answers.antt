use Rattle.std.proofs.Common.{ℕ, ◌+◌, get_or, subst, arith}
use Rattle.asm_text.specs.Operations.{number_of_operation}
use Rattle.asm_text.specs.RowPlaces.{IsNext}
use Rattle.asm_text.proofs.PlaceSkips.{place_first, place_last, place_next}
use Rattle.asm_text.proofs.search.find_best.Goals as goal

pub loop-place-init : goal.loop-place-init
loop-place-init c =
    let first : ℕ = get_or c.args.index.now.first c.op_number-number.result 0 in
    let P : ℕ → Type 0 = λ n. IsNext n 0 first in
    let is : IsNext (number_of_operation c.args.instr.now.op) 0 first =
    subst P c.op_number-number.ensures.value (c.requires.right.first c.op_number-number.result c.op_number-number.ensures.small) in
    record {
      so_far = place_first c.args.instr.now c.args.best.now.items first c.requires.none is;
      within = is.within;
      there = is.there;
    }

pub loop-place-preserved : goal.loop-place-preserved
loop-place-preserved c =
    let place : ℕ = c.loop-place.place in
    let next : ℕ = get_or c.args.index.now.next place 0 in
    let is : IsNext (number_of_operation c.args.instr.now.op) (place + 1) next =
    c.requires.right.next place (number_of_operation c.args.instr.now.op) (omega arith) c.loop-place-test.true
    (c.loop-place.invariant.there c.loop-place-test.true) in
    record {
      so_far = place_next c.args.instr.now c.loop-place.best.items c.try_named.new.best.items place next
          c.loop-place.invariant.so_far c.try_named.ensures is;
      within = is.within;
      there = is.there;
    }

pub returns : goal.returns
returns c =
    place_last c.args.instr.now c.loop-place.best.items c.loop-place.place c.loop-place.invariant.so_far (omega arith)
