use Rattle.std.proofs.Common.{rules, ◌≡◌, ℕ, ◌+◌, ◌-◌, ◌%◌, ◌<◌, ◌≤◌, suc, List, ◌∷◌, All, length, arith, ap, sym, subst, ◌∙◌}
use Rattle.exec_quick.specs.declared.quick.Quick.{Quick}
use Rattle.exec_quick.specs.QuickForms.{next_address}
use Rattle.mem_access.specs.declared.window.Window.{Window}
use Rattle.x86_regs.specs.declared.registers.Regs.{Regs}
use Rattle.cpu_step.specs.CodeLines.{AreFrom, AreMadeOn, IsFormIn}
use Rattle.cpu_step.proofs.LineTurns.{behind_on, left_by, more_on, none_more, none_on, off_on, wrapped_from}
use Rattle.cpu_step.proofs.line_turns.line_turns.Goals as goal
use Rattle.cpu_step.proofs.line_turns.line_turns.Goals.{in-Some+in-Left, in_default}

pub loop-quick-init : goal.loop-quick-init
loop-quick-init c =
    let round : ℕ = length c.forms_within-round.result.now in
    let none : 0 ≡ c.args.most - c.args.most + (round - round) = omega arith in (
      omega arith,
      c.forms_within-round.ensures.most,
      omega arith,
      c.forms_within-round.ensures.forms,
      subst (λ at. AreFrom c.args.line.now.at at c.forms_within-round.result.now) (sym (c.rip-start.ensures ∙ c.requires.here)) c.forms_within-round.ensures.row,
      subst (λ (x : ℕ × ℕ). AreMadeOn x.0 c.args.control.now c.args.tlb.now c.args.regs.now c.args.mem.now c.args.window.now (record c.args.regs.now { rip = x.1 }) c.args.mem.now c.args.window.now)
          (λ j. (none j, sym c.rip-start.ensures j))
          (none_on c.args.control.now c.args.tlb.now c.args.regs.now c.args.mem.now c.args.window.now c.requires.stretch.windowed),
    )

pub line_turn-requires-clause-form : goal.line_turn-requires-clause-form
line_turn-requires-clause-form c =
    subst (λ (forms : List Quick). All (IsFormIn c.args.line.now.code c.args.line.now.size) forms) c.in-Some.ensures.cases.0 c.loop-quick.invariant.3
    0 c.in-Some.quick.now (omega arith)

pub loop-quick-preserved-in-On : goal.loop-quick-preserved-in-On
loop-quick-preserved-in-On c =
    let inv = c.loop-quick.invariant in
    let at : ℕ = c.loop-quick.at in
    let size : ℕ = c.in-Some.quick.now.size in
    let round : ℕ = length c.forms_within-round.result.now in
    let behind : List Quick = c.in-Some.behind.now in
    let split : c.loop-quick.forms.now ≡ c.in-Some.quick.now ∷ behind = c.in-Some.ensures.cases.0 in
    let longer : length c.loop-quick.forms.now ≡ suc (length behind) = ap length split in
    let made : ℕ = c.args.most - c.loop-quick.left + (round - length c.loop-quick.forms.now) in
    let right : All (IsFormIn c.args.line.now.code c.args.line.now.size) behind =
    λ k d less. subst (λ (forms : List Quick). All (IsFormIn c.args.line.now.code c.args.line.now.size) forms) split inv.3 (suc k) d (omega (arith, less)) in
    let from = subst (λ (forms : List Quick). AreFrom c.args.line.now.at at forms) split inv.4 in
    let counts : made + 1 ≡ c.args.most - c.loop-quick.left + (round - length behind) = omega (arith, inv.0, inv.1, inv.2, longer) in (
      inv.0,
      inv.1,
      omega (arith, inv.2, longer),
      right,
      subst (λ n. AreFrom c.args.line.now.at ((at + n) % 18446744073709551616) behind) (sym c.from-at.ensures)
          (wrapped_from c.args.line.now.code c.args.line.now.at at size c.args.line.now.size behind
          (omega (arith, c.requires.code.to, c.requires.stretch.kept.page, c.requires.stretch.kept.bound)) right from.1),
      subst (λ (x : ℕ × ℕ). AreMadeOn x.0 c.args.control.now c.args.tlb.now c.args.regs.now c.args.mem.now c.args.window.now
          (record c.line_turn.new.regs { rip = (at + x.1) % 18446744073709551616 }) c.line_turn.new.mem c.line_turn.new.window)
          (λ j. (counts j, sym c.from-at.ensures j))
          (more_on c.args.control.now c.args.tlb.now made 1 c.args.regs.now (record c.loop-quick.regs { rip = at }) (record c.line_turn.new.regs { rip = next_address at size })
          c.args.mem.now c.loop-quick.mem c.line_turn.new.mem c.args.window.now c.loop-quick.window c.line_turn.new.window inv.5
          (behind_on c.args.control.now c.args.tlb.now c.line_turn.result (record c.loop-quick.regs { rip = at }) c.line_turn.new.regs c.loop-quick.mem c.line_turn.new.mem
          c.loop-quick.window c.line_turn.new.window (next_address at size) c.in-On.is c.line_turn.ensures.made)),
    )

pub returns-then-there-start-clause-made : goal.returns-then-there-start-clause-made
returns-then-there-start-clause-made c =
    let inv = c.loop-quick.invariant in
    let at : ℕ = c.loop-quick.at in
    let round : ℕ = length c.forms_within-round.result.now in
    let behind : ℕ = length c.in-Some.behind.now in
    let longer : length c.loop-quick.forms.now ≡ suc behind = ap length c.in-Some.ensures.cases.0 in
    let made : ℕ = c.args.most - c.loop-quick.left + (round - length c.loop-quick.forms.now) in
    let counts : made + 1 ≡ c.args.most - (c.loop-quick.left - (round - behind)) = omega (arith, inv.0, inv.1, inv.2, longer) in
    subst (λ n. AreMadeOn n c.args.control.now c.args.tlb.now c.args.regs.now c.args.mem.now c.args.window.now c.line_turn.new.regs c.line_turn.new.mem c.line_turn.new.window)
    counts
    (more_on c.args.control.now c.args.tlb.now made 1 c.args.regs.now (record c.loop-quick.regs { rip = at }) c.line_turn.new.regs
    c.args.mem.now c.loop-quick.mem c.line_turn.new.mem c.args.window.now c.loop-quick.window c.line_turn.new.window inv.5
    (off_on c.args.control.now c.args.tlb.now c.line_turn.result (record c.loop-quick.regs { rip = at }) c.line_turn.new.regs c.loop-quick.mem c.line_turn.new.mem
    c.loop-quick.window c.line_turn.new.window (next_address at c.in-Some.quick.now.size) c.in-Off.is c.line_turn.ensures.made))

pub loop-quick-preserved : goal.loop-quick-preserved
loop-quick-preserved c =
    let inv = c.loop-quick.invariant in
    let at : ℕ = c.loop-quick.at in
    let round : ℕ = length c.forms_within-round.result.now in
    let behind : ℕ = length c.in-Some.behind.now in
    let longer : length c.loop-quick.forms.now ≡ suc behind = ap length c.in-Some.ensures.cases.0 in
    let made : ℕ = c.args.most - c.loop-quick.left + (round - length c.loop-quick.forms.now) in
    let again : c.line_turn.new.regs.rip ≡ c.rip-start.result = search (rules, c.rip-there.ensures, c.if-there-start.false) in
    let counts : made + 1 ≡ c.args.most - (c.loop-quick.left - (round - behind)) + (round - round) = omega (arith, inv.0, inv.1, inv.2, longer) in (
      omega (arith, inv.0),
      omega (arith, c.if-left-round.false),
      omega arith,
      c.forms_within-round.ensures.forms,
      subst (λ n. AreFrom c.args.line.now.at n c.forms_within-round.result.now) (sym (c.rip-start.ensures ∙ c.requires.here)) c.forms_within-round.ensures.row,
      subst (λ (x : ℕ × ℕ). AreMadeOn x.0 c.args.control.now c.args.tlb.now c.args.regs.now c.args.mem.now c.args.window.now
          (record c.line_turn.new.regs { rip = x.1 }) c.line_turn.new.mem c.line_turn.new.window)
          (λ j. (counts j, again j))
          (more_on c.args.control.now c.args.tlb.now made 1 c.args.regs.now (record c.loop-quick.regs { rip = at }) c.line_turn.new.regs
          c.args.mem.now c.loop-quick.mem c.line_turn.new.mem c.args.window.now c.loop-quick.window c.line_turn.new.window inv.5
          (off_on c.args.control.now c.args.tlb.now c.line_turn.result (record c.loop-quick.regs { rip = at }) c.line_turn.new.regs c.loop-quick.mem c.line_turn.new.mem
          c.loop-quick.window c.line_turn.new.window (next_address at c.in-Some.quick.now.size) c.in-Off.is c.line_turn.ensures.made)),
    )

pub returns-clause-made : goal.returns-clause-made
returns-clause-made c =
    let inv = c.loop-quick.invariant in
    let at : ℕ = c.loop-quick.at in
    let made : ℕ = c.args.most - c.loop-quick.left + (length c.forms_within-round.result.now - length c.loop-quick.forms.now) in
    subst (λ (r : Regs). AreMadeOn made c.args.control.now c.args.tlb.now c.args.regs.now c.args.mem.now c.args.window.now r c.match-split_first.mem c.match-split_first.window) (sym c.set_rip.ensures)
    (elim c.match-split_first.branch [
      | in-Some+in-Left w ↦
          subst (λ (x : Regs × List ℕ × Window). AreMadeOn made c.args.control.now c.args.tlb.now c.args.regs.now c.args.mem.now c.args.window.now (record x.0 { rip = at }) x.1 x.2)
          (λ j. (sym w.regs-is j, sym w.mem-is j, sym w.window-is j))
          (none_more c.args.control.now c.args.tlb.now made c.args.regs.now (record c.loop-quick.regs { rip = at }) (record w.line_turn.new.regs { rip = at })
          c.args.mem.now c.loop-quick.mem w.line_turn.new.mem c.args.window.now c.loop-quick.window w.line_turn.new.window inv.5
          (left_by c.args.control.now c.args.tlb.now w.line_turn.result (record c.loop-quick.regs { rip = at }) (record w.line_turn.new.regs { rip = at })
          c.loop-quick.mem w.line_turn.new.mem c.loop-quick.window w.line_turn.new.window w.in-Left.is w.line_turn.ensures.left))
      | in_default w ↦
          subst (λ (x : Regs × List ℕ × Window). AreMadeOn made c.args.control.now c.args.tlb.now c.args.regs.now c.args.mem.now c.args.window.now (record x.0 { rip = at }) x.1 x.2)
          (λ j. (sym w.regs-is j, sym w.mem-is j, sym w.window-is j)) inv.5
    ])
