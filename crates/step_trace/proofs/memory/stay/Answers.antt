use Rattle.std.proofs.Common.{◌≡◌, ◌≢◌, ◌⊎◌, inl, inr, ℕ, suc, ◌-◌, ◌≤◌, length, get_or, sym, ◌∙◌, arith, rules}
use Rattle.std.proofs.lemmas.Bool.{cases_lt}
use Rattle.step_trace.proofs.ChangedRuns.{stay_more, stay_ends, stay_done}
use Rattle.step_trace.proofs.memory.stay.Goals as goal

pub loop-i-preserved : goal.loop-i-preserved
loop-i-preserved c =
    let same : get_or c.args.old.now c.loop-i.i 0 ≡ get_or c.args.new.now c.loop-i.i 0 = omega arith in
    λ n is. sym (stay_more n c.loop-i.i c.args.old.now c.args.new.now (omega arith) (omega arith) same) ∙ c.loop-i.invariant (suc n) (omega arith)

pub returns-then-old-i : goal.returns-then-old-i
returns-then-old-i c =
    let i : ℕ = c.loop-i.i in
    let other : get_or c.args.old.now i 0 ≢ get_or c.args.new.now i 0 = search rules in
    sym (stay_ends (7 - i) i c.args.old.now c.args.new.now (omega arith) (omega arith) other) ∙ c.loop-i.invariant (suc (7 - i)) (omega arith)

pub returns : goal.returns
returns c =
    let i : ℕ = c.loop-i.i in
    let over : (8 - i ≡ 0) ⊎ (length c.args.old.now ≤ i) =
    elim (cases_lt i 8) [ inl below ↦ inr (omega arith) | inr past ↦ inl (omega arith) ] in
    sym (stay_done (8 - i) i c.args.old.now c.args.new.now over) ∙ c.loop-i.invariant (8 - i) (omega arith)
