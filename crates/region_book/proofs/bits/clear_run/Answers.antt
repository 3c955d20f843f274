use Rattle.std.proofs.Common.{◌<◌, ap, bit_and, ◌-◌, arith, length, ◌∙◌}
use Rattle.region_book.specs.RegionBytes.{bits_in}
use Rattle.region_book.specs.RegionRows.{bit_in}
use Rattle.region_book.proofs.BitBytes.{differs_twice, bits_length}
use Rattle.region_book.proofs.ByteBits.{clear_more}
use Rattle.region_book.proofs.bits.clear_run.Goals as goal

pub loop-byte-preserved : goal.loop-byte-preserved
loop-byte-preserved c =
    let within : c.loop-byte.byte < length (bits_in c.loop-byte.mem) =
    omega (
      arith,
      bits_length c.loop-byte.mem
          (omega (arith, c.requires.size, c.loop-byte.invariant.elsewhere.size)),
    ) in
    record {
      each = λ k. ap (λ bits. bit_in bits k) c.put.ensures.bits
          ∙ clear_more (bits_in c.args.mem.now) (bits_in c.loop-byte.mem) c.loop-byte.byte c.mask-mask.result c.args.first _
          within c.mask-mask.ensures _ (ap (λ b. bit_and b (255 - c.mask-mask.result)) c.byte_at-bits.ensures)
          (omega arith) c.loop-byte.invariant.each k;
      elsewhere = differs_twice c.args.mem.now c.loop-byte.mem c.put.new.mem c.loop-byte.invariant.elsewhere
          c.put.ensures.elsewhere;
    }
