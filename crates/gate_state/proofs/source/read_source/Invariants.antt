use Rattle.std.proofs.Common.{◌≡◌, ◌≤◌, ◌+◌, ◌-◌, length, vec_capacity}
use Rattle.nk_bits.specs.Translations.{NamesFramesIn}
use Rattle.gate_state.specs.SourceBytes.{source_read}
use Rattle.gate_state.proofs.SourceReads.{with_front}
use Rattle.gate_state.proofs.source.read_source.Given as goal

abbrev pub invariant-loop-done : goal.invariant-loop-done
invariant-loop-done l = record {
  read : with_front l.into.items (source_read l.mem l.root l.tlb (l.va + l.done) (l.count - l.done)) ≡ source_read l.mem l.root l.fn.tlb l.va l.count;
  frames : NamesFramesIn (length l.mem) l.tlb;
  so_far : length l.into.items ≡ l.done;
  most : l.done ≤ l.count;
  room : vec_capacity l.fn.into ≤ vec_capacity l.into;
}

abbrev pub decreases-loop-done : goal.decreases-loop-done
decreases-loop-done l = l.count - l.done
