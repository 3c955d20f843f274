use Rattle.std.proofs.lemmas.Result.{on_ok_weaker}
use Rattle.step_trace.proofs.StateTexts.{state_whole}
use Rattle.step_trace.proofs.state.put_state.Goals as goal

pub returns : goal.returns
returns c =
    on_ok_weaker c.put_waits.result
    (state_whole c.args.turns c.args.cpu.now c.regs.result.now c.control.result.now c.args.line.now.items
    c.put_place.new.line.items c.put_held.new.line.items c.put_all_control.new.line.items c.put_waits.new.line.items
    c.regs.ensures c.control.ensures c.in_ok-put_place.ensures c.in_ok-put_held.ensures c.in_ok-put_all_control.ensures)
    c.put_waits.ensures
