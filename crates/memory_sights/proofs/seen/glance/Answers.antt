use Rattle.std.proofs.Common.{◌+◌, ap, arith, ◌∙◌}
use Rattle.gate_state.specs.MachineOf.{whole_of}
use Rattle.memory_sights.specs.Sights.{byte_seen, bytes_seen}
use Rattle.memory_sights.proofs.SightsLeft.{put_all, put_on, put_whole}
use Rattle.memory_sights.proofs.seen.glance.Goals as goal

-- no byte is seen there
pub returns-in_default : goal.returns-in_default
returns-in_default c =
    put_all (whole_of c.args.machine.now).state c.args.address c.loop-done.done c.args.count c.byte_behind.result
    c.loop-done.bytes.items (bytes_seen (whole_of c.args.machine.now).state c.args.address c.args.count) c.loop-done.invariant.left
    (c.byte_behind.ensures ∙ ap (λ k. byte_seen (whole_of c.args.machine.now).state (c.args.address + k)) c.from.ensures) c.in_default.is

-- one more is put
pub loop-done-preserved : goal.loop-done-preserved
loop-done-preserved c = record {
  left =
      put_on (whole_of c.args.machine.now).state c.args.address c.loop-done.done c.args.count c.byte_behind.result
      c.loop-done.bytes.items (bytes_seen (whole_of c.args.machine.now).state c.args.address c.args.count) c.loop-done.invariant.left
      c.in-Some.byte c.push.new.self.items (omega (arith, c.loop-done-test.true))
      (c.byte_behind.ensures ∙ ap (λ k. byte_seen (whole_of c.args.machine.now).state (c.args.address + k)) c.from.ensures) c.in-Some.is
      c.push.ensures.items;
  room = omega (arith, c.push.ensures.len, c.loop-done.invariant.room);
}

-- all were
pub returns : goal.returns
returns c =
    put_whole (whole_of c.args.machine.now).state c.args.address c.loop-done.done c.args.count c.loop-done.bytes.items
    (bytes_seen (whole_of c.args.machine.now).state c.args.address c.args.count) c.loop-done.invariant.left
    (omega (arith, c.loop-done-test.false))
