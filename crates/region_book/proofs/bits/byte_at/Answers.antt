use Rattle.std.proofs.Common.{◌+◌, ap, sym, ◌∙◌}
use Rattle.phys_mem.specs.Memory.{byte_at}
use Rattle.region_book.proofs.BitBytes.{bits_byte}
use Rattle.region_book.proofs.bits.byte_at.Goals as goal

pub returns : goal.returns
returns c = c.load8.ensures ∙ ap (λ i. byte_at c.args.mem.now (0x2A000 + i)) c.from.ensures
    ∙ sym (bits_byte c.args.mem.now c.args.byte c.requires.byte)
