use Rattle.std.proofs.Common.{All, length, arith, subst, sym}
use Rattle.cpu_step.specs.CodeLines.{IsLineOf}
use Rattle.cpu_step.proofs.CodePages.{first_stretch}
use Rattle.cpu_step.proofs.LineForms.{fresh_lines, lines_by}
use Rattle.cpu_step.proofs.LineTurns.{no_turn, turns_more}
use Rattle.cpu_step.proofs.stretches.stretch.Goals as goal

pub loop-count-init : goal.loop-count-init
loop-count-init c = (
  omega arith,
  c.requires.count,
  subst (λ stamp. All (IsLineOf stamp c.same_codes-codes.result c.args.mem.now) c.args.lines.now.items) (sym (c.raise.ensures.raised c.if-not-raise.false))
      (fresh_lines c.args.stamp.now c.same_codes-codes.result c.args.mem.now c.args.lines.now.items c.requires.lines),
  first_stretch (length c.args.mem.now) c.args.control.now c.args.regs.now.cpl c.args.tlb.now c.args.first.now c.same_codes-codes.result c.window_beside-window.result
      c.same_codes-codes.ensures.length c.same_codes-codes.ensures.codes c.requires.kept
      (c.window_beside-window.ensures.window (length c.args.mem.now) c.args.control.now c.args.regs.now.cpl c.args.tlb.now) c.window_beside-window.ensures.off c.requires.frames,
  no_turn c.args.control.now c.args.tlb.now c.args.regs.now c.args.mem.now,
)

pub loop-count-preserved : goal.loop-count-preserved
loop-count-preserved c =
    let inv = c.loop-count.invariant in
    let lines = c.lines_run-made.new.lines.items in
    let mem = c.lines_run-made.new.mem in (
      omega (arith, c.loop-count-test.true, c.lines_run-made.ensures.most, inv.0),
      c.lines_run-made.ensures.count,
      subst (λ stamp. All (IsLineOf stamp c.keep_next.new.codes mem) lines) (sym (c.keep_next.ensures.kept c.if-not-keep_next.false))
          (fresh_lines c.loop-count.stamp c.keep_next.new.codes mem lines (lines_by c.loop-count.stamp c.loop-count.codes mem lines c.lines_run-made.ensures.lines)),
      c.keep_next.ensures.stretch,
      turns_more c.args.control.now c.args.tlb.now c.loop-count.count c.lines_run-made.result c.args.regs.now c.loop-count.regs c.lines_run-made.new.regs
          c.args.mem.now c.loop-count.mem mem c.loop-count.window c.lines_run-made.new.window inv.4 c.lines_run-made.ensures.made,
    )

pub returns-then-not-raise-clause-made : goal.returns-then-not-raise-clause-made
returns-then-not-raise-clause-made c = no_turn c.args.control.now c.args.tlb.now c.args.regs.now c.args.mem.now

pub returns-then-made-eq0-clause-made : goal.returns-then-made-eq0-clause-made
returns-then-made-eq0-clause-made c =
    turns_more c.args.control.now c.args.tlb.now c.loop-count.count c.lines_run-made.result c.args.regs.now c.loop-count.regs c.lines_run-made.new.regs
    c.args.mem.now c.loop-count.mem c.lines_run-made.new.mem c.loop-count.window c.lines_run-made.new.window c.loop-count.invariant.4 c.lines_run-made.ensures.made
