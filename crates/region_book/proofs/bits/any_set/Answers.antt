use Rattle.std.proofs.Common.{◌<◌, ℕ, List, arith, refl, ap, sym, ◌∙◌, slice_index, bit_and}
use Rattle.region_book.specs.RegionBytes.{bits_in}
use Rattle.region_book.specs.RegionRows.{bit_in}
use Rattle.region_book.proofs.BitTests.{none_in_run, none_more, some_here}
use Rattle.region_book.proofs.bits.any_set.Goals as goal

pub returns-then-bits-mask-ne0 : goal.returns-then-bits-mask-ne0
returns-then-bits-mask-ne0 c =
    let bits : List ℕ = bits_in c.args.mem.now in
    let small : slice_index bits c.loop-byte.byte < 256 = omega (arith, c.byte_at-bits.ensures) in
    some_here bits c.loop-byte.byte c.mask-mask.result c.args.first _ c.mask-mask.ensures
    c.args.count refl small (omega arith)
    (λ none. c.if-bits-mask-ne0.true (ap (λ b. bit_and b c.mask-mask.result) c.byte_at-bits.ensures ∙ none))

pub loop-byte-preserved : goal.loop-byte-preserved
loop-byte-preserved c =
    none_more (bits_in c.args.mem.now) c.loop-byte.byte c.mask-mask.result c.args.first _ c.mask-mask.ensures
    (ap (λ b. bit_and b c.mask-mask.result) (sym c.byte_at-bits.ensures) ∙ c.if-bits-mask-ne0.false) c.loop-byte.invariant

pub returns : goal.returns
returns c = sym (none_in_run (bit_in (bits_in c.args.mem.now)) c.args.first c.args.count
    (λ k low high. c.loop-byte.invariant k low high (omega arith)))
