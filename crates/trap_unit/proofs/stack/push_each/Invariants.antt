use Rattle.std.proofs.Common.{◌≡◌, length, drop}
use Rattle.nk_bits.specs.Translations.{NamesFramesIn}
use Rattle.trap_unit.specs.TrapDelivery.{pushes}
use Rattle.trap_unit.proofs.stack.push_each.Given as goal

abbrev pub invariant-loop-value : goal.invariant-loop-value
invariant-loop-value l = record {
  same_length : length l.mem ≡ length l.fn.mem;
  frames : NamesFramesIn (length l.mem) l.tlb;
  left : pushes l.control l.values l.fn.top l.fn.mem l.fn.tlb
      ≡ pushes l.control (drop l.value-index l.values) l.last l.mem l.tlb;
}
