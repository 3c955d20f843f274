use Rattle.std.proofs.Common.{◌≡◌, ℕ, ◌-◌, false, List, length, take, drop, sym, ap, ◌∙◌, arith}
use Rattle.std.proofs.lemmas.List.{take_rest}
use Rattle.step_trace.specs.StepChanges.{stay}
use Rattle.step_trace.proofs.ChangedRuns.{run_more}
use Rattle.step_trace.proofs.memory.run_end.Goals as goal

pub loop-i-preserved : goal.loop-i-preserved
loop-i-preserved c =
    let i : ℕ = c.loop-i.i in
    let old : List ℕ = c.args.old.now in
    let new : List ℕ = c.args.new.now in
    let goes : stay 8 (drop i old) (drop i new) ≡ false =
    ap (λ l. stay 8 l (drop i new)) (sym (take_rest old i)) ∙ ap (stay 8 (take (length old - i) (drop i old))) (sym (take_rest new i)) ∙ (sym c.stay.ensures ∙ c.if-stay.false) in
    let more = run_more i old new (omega arith) (omega arith) goes in
    omega (arith, more)
