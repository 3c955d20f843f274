use Rattle.std.proofs.Common.{◌++◌, arith}
use Rattle.gate_state.specs.MachineOf.{whole_of}
use Rattle.memory_sights.specs.Sights.{bytes_seen}
use Rattle.memory_sights.proofs.SightsLeft.{put_all, put_on, put_whole}
use Rattle.memory_sights.proofs.seen.read_seen.Goals as goal

-- no byte is seen there
pub returns-in_default : goal.returns-in_default
returns-in_default c =
    put_all (whole_of c.args.machine.now).state c.args.address c.loop-done.done c.args.count c.byte_behind.result
    c.loop-done.bytes.items (c.args.bytes.now.items ++ bytes_seen (whole_of c.args.machine.now).state c.args.address c.args.count)
    c.loop-done.invariant c.byte_behind.ensures c.in_default.is

-- one more is put
pub loop-done-preserved : goal.loop-done-preserved
loop-done-preserved c =
    put_on (whole_of c.args.machine.now).state c.args.address c.loop-done.done c.args.count c.byte_behind.result
    c.loop-done.bytes.items (c.args.bytes.now.items ++ bytes_seen (whole_of c.args.machine.now).state c.args.address c.args.count)
    c.loop-done.invariant c.in-Some.byte c.push.new.self.items (omega (arith, c.loop-done-test.true)) c.byte_behind.ensures c.in-Some.is
    c.in_ok-push.ensures.items

-- all were
pub returns : goal.returns
returns c =
    put_whole (whole_of c.args.machine.now).state c.args.address c.loop-done.done c.args.count c.loop-done.bytes.items
    (c.args.bytes.now.items ++ bytes_seen (whole_of c.args.machine.now).state c.args.address c.args.count)
    c.loop-done.invariant (omega (arith, c.loop-done-test.false))
