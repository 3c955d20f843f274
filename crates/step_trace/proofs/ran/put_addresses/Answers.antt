use Rattle.std.proofs.Common.{List, ℕ, Ok, Err, ap, sym, ◌∙◌, ◌++◌}
use Rattle.std.specs.Prelude.{codes}
use Rattle.report_text.specs.RunLines.{hex_16}
use Rattle.step_trace.specs.AddressesRan.{ran_text}
use Rattle.step_trace.proofs.AddressesNoted.{line_first, one_line}
use Rattle.step_trace.proofs.TakenTexts.{both_taken, first_cut, so_taken}
use Rattle.step_trace.proofs.ran.put_addresses.Goals as goal

pub returns-in-Err : goal.returns-in-Err
returns-in-Err g c =
    let taken = g.O.Sink.taken in
    let faults = g.O.Sink.faults in
    let text = c.loop-address.invariant.text in
    let rest = c.next.new.self in
    let line = hex_16 c.in-Some.address.now ++ codes "\n" in
    let is = line_first text c.in-Some.address.now rest
    ∙ (ap (λ (l : List ℕ). text ++ ran_text l) (sym c.in-Some.ensures.steps) ∙ c.loop-address.invariant.left) in
    so_taken taken faults (Err c.in-Err.fault) c.args.sink.now c.put_address.new.sink (text ++ (line ++ ran_text rest)) (ran_text c.args.ran.now.keys) is
    (both_taken taken faults (Err c.in-Err.fault) c.args.sink.now c.loop-address.sink c.put_address.new.sink text (line ++ ran_text rest)
    c.loop-address.invariant.so (first_cut taken faults (ran_text rest) c.in-Err.ensures))

pub loop-address-preserved : goal.loop-address-preserved
loop-address-preserved g c =
    let text = c.loop-address.invariant.text in
    let line = hex_16 c.in-Some.address.now ++ codes "\n" in
    record {
      text = text ++ line;
      so = both_taken g.O.Sink.taken g.O.Sink.faults (Ok tt) c.args.sink.now c.loop-address.sink c.put_address.new.sink text line
          c.loop-address.invariant.so c.in_default.ensures;
      left = one_line text c.in-Some.address.now c.next.new.self
          ∙ (ap (λ (l : List ℕ). text ++ ran_text l) (sym c.in-Some.ensures.steps) ∙ c.loop-address.invariant.left);
    }
