use Rattle.std.proofs.Common.{◌<◌, ap, bit_or, arith, length, ◌∙◌}
use Rattle.region_book.specs.RegionBytes.{bits_in}
use Rattle.region_book.specs.RegionRows.{bit_in}
use Rattle.region_book.proofs.BitBytes.{differs_twice, bits_length}
use Rattle.region_book.proofs.ByteBits.{set_more}
use Rattle.region_book.proofs.bits.set_run.Goals as goal

pub loop-byte-preserved : goal.loop-byte-preserved
loop-byte-preserved c =
    let within : c.loop-byte.byte < length (bits_in c.loop-byte.mem) =
    omega (
      arith,
      bits_length c.loop-byte.mem
          (omega (arith, c.requires.size, c.loop-byte.invariant.elsewhere.size)),
    ) in
    record {
      each = λ k. ap (λ bits. bit_in bits k) c.put.ensures.bits
          ∙ set_more (bits_in c.args.mem.now) (bits_in c.loop-byte.mem) c.loop-byte.byte c.mask-mask.result c.args.first _
          within c.mask-mask.ensures _ (ap (λ b. bit_or b c.mask-mask.result) c.byte_at-bits.ensures)
          c.loop-byte.invariant.each k;
      elsewhere = differs_twice c.args.mem.now c.loop-byte.mem c.put.new.mem c.loop-byte.invariant.elsewhere
          c.put.ensures.elsewhere;
    }
