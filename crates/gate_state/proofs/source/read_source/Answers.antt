use Rattle.std.proofs.Common.{◌≡◌, ◌+◌, ◌-◌, None, length, sym, ap, ◌∙◌, arith, suc}
use Rattle.gate_state.specs.SourceBytes.{source_read}
use Rattle.gate_state.proofs.SourceReads.{front_none, front_stops, front_whole, with_front}
use Rattle.gate_state.proofs.SourceRuns.{run_behind}
use Rattle.gate_state.proofs.source.read_source.Goals as goal

pub loop-done-init : goal.loop-done-init
loop-done-init c =
    let at : c.args.va + 0 ≡ c.args.va = omega arith in
    let left : c.args.count - 0 ≡ c.args.count = omega arith in
    record {
      read =
          (λ i. with_front (c.requires.none i) (source_read c.args.mem.now c.args.root c.args.tlb.now (at i) (left i)))
          ∙ front_none (source_read c.args.mem.now c.args.root c.args.tlb.now c.args.va c.args.count);
      frames = c.requires.context.frames;
      so_far = ap length c.requires.none;
      most = omega arith;
      room = omega arith;
    }

pub returns-in_default-clause-read : goal.returns-in_default-clause-read
returns-in_default-clause-read c =
    let left : c.args.count - c.loop-done.done ≡ suc (c.args.count - (c.loop-done.done + 1)) = omega arith in
    sym (ap (λ tlb. record { bytes = None; tlb = tlb }) (sym c.leaf_of.ensures.tlb))
    ∙ sym (front_stops c.args.mem.now c.args.root c.loop-done.tlb (c.args.va + c.loop-done.done) c.loop-done.into.items (c.args.count - (c.loop-done.done + 1))
    (c.args.count - c.loop-done.done) left (sym c.in_default.ensures.byte))
    ∙ c.loop-done.invariant.read

pub loop-done-preserved : goal.loop-done-preserved
loop-done-preserved c =
    let n = c.take_page-done.result in
    let at : c.args.va + (c.loop-done.done + n) ≡ c.args.va + c.loop-done.done + n = omega arith in
    record {
      read =
          (λ i. with_front (c.take_page-done.ensures.bytes i)
          (source_read c.args.mem.now c.args.root c.leaf_of.new.tlb (at i) (c.args.count - (c.loop-done.done + n))))
          ∙ sym (run_behind c.args.mem.now c.args.root c.loop-done.tlb c.leaf_of.new.tlb c.in-Some.leaf (c.args.va + c.loop-done.done)
          c.in-Some.ensures.readable.0 c.in-Some.ensures.readable.1 c.in-Some.ensures.kept c.in-Some.ensures.byte c.leaf_of.ensures.tlb
          c.loop-done.into.items n (c.args.count - (c.loop-done.done + n)) (c.args.count - c.loop-done.done)
          (omega (arith, c.take_page-done.ensures.count.1)) c.take_page-done.ensures.count.0 c.take_page-done.ensures.count.2
          c.take_page-done.ensures.inside)
          ∙ c.loop-done.invariant.read;
      frames = c.leaf_of.ensures.frames;
      so_far = omega (arith, c.take_page-done.ensures.taken, c.loop-done.invariant.so_far);
      most = omega (arith, c.take_page-done.ensures.count.1);
      room = omega (arith, c.take_page-done.ensures.room, c.loop-done.invariant.room);
    }

pub returns-clause-read : goal.returns-clause-read
returns-clause-read c =
    sym (front_whole c.args.mem.now c.args.root c.loop-done.tlb (c.args.va + c.loop-done.done) c.loop-done.into.items (c.args.count - c.loop-done.done) (omega arith))
    ∙ c.loop-done.invariant.read
