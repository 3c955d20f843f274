use Rattle.std.proofs.Common.{Err, arith}
use Rattle.phys_mem.specs.Memory.{frame_bytes}
use Rattle.step_trace.specs.StepTexts.{frame_text, frames_text}
use Rattle.step_trace.proofs.OpeningTexts.{frame_more, frames_behind, frames_with}
use Rattle.step_trace.proofs.TakenTexts.{both_taken, first_cut, so_taken}
use Rattle.step_trace.proofs.opening.put_frames.Goals as goal

pub returns-in-Err : goal.returns-in-Err
returns-in-Err g c =
    let taken = g.O.Sink.taken in
    let faults = g.O.Sink.faults in
    let first = c.args.sink.now in
    let last = c.put_frame_line.new.sink in
    let m = c.args.mem.now in
    let k = c.loop-frame.frame in
    let so_far = frames_text k 0 m in
    let this = frame_text k (frame_bytes m k) in
    so_taken taken faults (Err c.in-Err.fault) first last _ _ (frames_with k m (omega arith))
    (first_cut taken faults (frames_behind k m)
    (both_taken taken faults (Err c.in-Err.fault) first c.loop-frame.sink last so_far this
    c.loop-frame.invariant c.in-Err.ensures))

pub loop-frame-preserved : goal.loop-frame-preserved
loop-frame-preserved g c =
    let taken = g.O.Sink.taken in
    let faults = g.O.Sink.faults in
    let first = c.args.sink.now in
    let last = c.put_frame_line.new.sink in
    let m = c.args.mem.now in
    let k = c.loop-frame.frame in
    so_taken taken faults _ first last _ _ (frame_more k m)
    (both_taken taken faults _ first c.loop-frame.sink last (frames_text k 0 m) (frame_text k (frame_bytes m k))
    c.loop-frame.invariant c.in_default.ensures)
