use Rattle.std.proofs.Common.{◌/◌, length, subst, sym}
use Rattle.gate_state.specs.StepsTouched.{KeepsOutside}
use Rattle.step_trace.specs.CopiesOfMemory.{IsCopyFor}
use Rattle.step_trace.proofs.ToldMemory.{none_told, same_memory}
use Rattle.step_trace.proofs.TwoFrames.{all_told, frames_copied, frames_told}
use Rattle.step_trace.proofs.memory.put_memory.Goals as goal

pub returns-in-Nothing-clause-text : goal.returns-in-Nothing-clause-text
returns-in-Nothing-clause-text c before it =
    let same = subst (λ t. IsCopyFor t c.args.copy.now before c.args.mem.now) c.in-Nothing.is it in
    none_told c.args.line.now.items before c.args.mem.now (length c.args.mem.now / 4096) same.size (λ p. sym (same.outside p tt))

pub returns-in-Nothing-clause-copy : goal.returns-in-Nothing-clause-copy
returns-in-Nothing-clause-copy c keeps =
    let stays = subst (λ t. KeepsOutside t c.args.copy.now c.args.mem.now) c.in-Nothing.is keeps in
    same_memory c.args.copy.now c.args.mem.now c.requires.size (λ p. sym (stays p tt))

pub returns-in_ok-put_two-in-Frames-clause-text : goal.returns-in_ok-put_two-in-Frames-clause-text
returns-in_ok-put_two-in-Frames-clause-text c before it =
    frames_told c.args.line.now.items _ c.args.copy.now before c.args.mem.now _ _
    (subst (λ t. IsCopyFor t c.args.copy.now before c.args.mem.now) c.in-Frames.is it) (c.in_ok-put_two-in-Frames.ensures.text before)

pub returns-in_ok-put_two-in-Frames-clause-copy : goal.returns-in_ok-put_two-in-Frames-clause-copy
returns-in_ok-put_two-in-Frames-clause-copy c keeps =
    frames_copied c.args.copy.now c.put_two.new.copy c.args.mem.now _ _ c.put_two.ensures.size
    (subst (λ t. KeepsOutside t c.args.copy.now c.args.mem.now) c.in-Frames.is keeps) c.in_ok-put_two-in-Frames.ensures.copied

pub returns-in_ok-put_all-in-Any-clause-text : goal.returns-in_ok-put_all-in-Any-clause-text
returns-in_ok-put_all-in-Any-clause-text c before it =
    all_told c.args.line.now.items _ c.args.copy.now before c.args.mem.now c.requires.size
    (subst (λ t. IsCopyFor t c.args.copy.now before c.args.mem.now) c.in-Any.is it) c.in_ok-put_all-in-Any.ensures.text
