use Rattle.std.proofs.Common.{◌+◌, ◌-◌, ◌/◌, ◌++◌, ap, ◌∙◌, arith}
use Rattle.asm_text.specs.Assembly.{number_bytes_of}
use Rattle.asm_text.proofs.Numbers.{put_step}
use Rattle.asm_text.proofs.assembly.put_number.Goals as goal

pub loop-i-preserved : goal.loop-i-preserved
loop-i-preserved c = record {
  counted = omega (arith, c.push.ensures.len, c.loop-i.invariant.counted);
  whole =
      ap (λ items. items ++ number_bytes_of (c.args.size - (c.loop-i.i + 1)) (c.loop-i.rest / 256)) c.push.ensures.items
      ∙ (put_step c.loop-i.bytes.items c.args.size c.loop-i.i c.loop-i.rest c.loop-i-test.true ∙ c.loop-i.invariant.whole);
}
