use Rattle.std.proofs.Common.{Err, ◌++◌, ap}
use Rattle.cpu_step.specs.Processor.{Processor}
use Rattle.gate_state.specs.MachineOf.{real_of, whole_of}
use Rattle.step_trace.specs.StepTexts.{state_text}
use Rattle.step_trace.specs.Traces.{kept_shown, memory_shown, opening_text}
use Rattle.step_trace.proofs.TakenTexts.{both_taken, first_cut, so_taken}
use Rattle.step_trace.proofs.opening.put_opening.Goals as goal

pub returns-in-Err : goal.returns-in-Err
unfolding opening_text
returns-in-Err g c =
    first_cut g.O.Sink.taken g.O.Sink.faults _ c.in-Err.ensures

pub returns-in-Err-put_memory_shown : goal.returns-in-Err-put_memory_shown
unfolding opening_text
returns-in-Err-put_memory_shown g c =
    let taken = g.O.Sink.taken in
    let faults = g.O.Sink.faults in
    let why = c.in-Err-put_memory_shown.fault in
    let mid = c.put_state_line.new.sink in
    let last = c.put_memory_shown.new.sink in
    let state = (whole_of c.args.machine.now).state in
    let of_memory = memory_shown c.args.shown.now.memory (real_of c.args.machine.now) in
    let of_kept = kept_shown c.args.shown.now.translations state.processor.tlb in
    both_taken taken faults (Err why) c.args.sink.now mid last
    (state_text state.turns state.processor) (of_memory ++ of_kept) c.in_default.ensures
    (first_cut taken faults of_kept
    (so_taken taken faults (Err why) mid last _ _
    (ap (λ m. memory_shown c.args.shown.now.memory m) c.memory.ensures.real)
    c.in-Err-put_memory_shown.ensures))

pub returns : goal.returns
unfolding opening_text
returns g c =
    let taken = g.O.Sink.taken in
    let faults = g.O.Sink.faults in
    let put = c.put_kept_shown.result in
    let one = c.put_state_line.new.sink in
    let two = c.put_memory_shown.new.sink in
    let last = c.put_kept_shown.new.sink in
    let state = (whole_of c.args.machine.now).state in
    let of_memory = memory_shown c.args.shown.now.memory (real_of c.args.machine.now) in
    let of_kept = kept_shown c.args.shown.now.translations state.processor.tlb in
    both_taken taken faults put c.args.sink.now one last
    (state_text state.turns state.processor) (of_memory ++ of_kept) c.in_default.ensures
    (both_taken taken faults put one two last of_memory of_kept
    (so_taken taken faults _ one two _ _
    (ap (λ m. memory_shown c.args.shown.now.memory m) c.memory.ensures.real)
    c.in_default-put_memory_shown.ensures)
    (so_taken taken faults put two last _ _
    (ap (λ (p : Processor). kept_shown c.args.shown.now.translations p.tlb) c.processor.ensures.processor)
    c.put_kept_shown.ensures))
