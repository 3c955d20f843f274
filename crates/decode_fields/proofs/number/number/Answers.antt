use Rattle.std.proofs.Common.{◌≡◌, ℕ, suc, ◌+◌, ◌-◌, ◌*◌, ◌^◌, ◌<◌, ◌≤◌, get_or, subst, sym, arith}
use Rattle.decode_fields.proofs.NumberLemmas.{number_step, byte_above, below_word}
use Rattle.decode_fields.proofs.number.number.Goals as goal

-- one more byte stays below the power that it is given
one_more : (size i number byte : ℕ) → 0 < i → i ≤ size → number < 2 ^ (8 * (size - i)) → byte < 256 → 256 * number + byte < 2 ^ (8 * (size - (i - 1)))
one_more size i number byte some within low small =
    let count : size - (i - 1) ≡ suc (size - i) = omega arith in
    let P : ℕ → Type 0 = λ n. 256 * number + byte < 2 ^ (8 * n) in
    subst P (sym count) (byte_above (size - i) number byte low small)

pub overflow_mul-number : goal.overflow_mul-number
overflow_mul-number c =
    let low : 256 * c.loop-i.number + 0 < 2 ^ (8 * (c.args.size - (c.loop-i.i - 1))) =
    one_more c.args.size c.loop-i.i c.loop-i.number 0 c.loop-i-test.true c.loop-i.auto.i c.loop-i.invariant.1 (omega arith) in
    let word : 256 * c.loop-i.number + 0 < 2 ^ 64 = below_word (8 * (c.args.size - (c.loop-i.i - 1))) (256 * c.loop-i.number + 0) low (omega arith) in
    omega arith

pub overflow_add-number : goal.overflow_add-number
overflow_add-number c =
    let byte : ℕ = get_or c.args.bytes.now (c.loop-i.i - 1) 0 in
    let low : 256 * c.loop-i.number + byte < 2 ^ (8 * (c.args.size - (c.loop-i.i - 1))) =
    one_more c.args.size c.loop-i.i c.loop-i.number byte c.loop-i-test.true c.loop-i.auto.i c.loop-i.invariant.1 (omega (arith, c.type_inv.bytes (c.loop-i.i - 1))) in
    omega (arith, below_word (8 * (c.args.size - (c.loop-i.i - 1))) (256 * c.loop-i.number + byte) low (omega arith))

pub loop-i-preserved : goal.loop-i-preserved
loop-i-preserved c =
    let byte : ℕ = get_or c.args.bytes.now (c.loop-i.i - 1) 0 in (
      number_step c.args.bytes.now c.args.size c.loop-i.i c.loop-i.number c.loop-i-test.true c.loop-i.auto.i c.requires.there c.loop-i.invariant.0,
      one_more c.args.size c.loop-i.i c.loop-i.number byte c.loop-i-test.true c.loop-i.auto.i c.loop-i.invariant.1 (omega (arith, c.type_inv.bytes (c.loop-i.i - 1))),
    )
