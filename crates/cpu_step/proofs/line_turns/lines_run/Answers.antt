use Rattle.std.proofs.Common.{rules, length, ◌∙◌, arith}
use Rattle.cpu_step.proofs.CodePages.{codes_lie, found_chosen, found_code, found_line, page_stretch}
use Rattle.cpu_step.proofs.LineTurns.{lines_on, more_on, none_on, stretch_on}
use Rattle.cpu_step.proofs.line_turns.lines_run.Goals as goal

pub loop-count-init : goal.loop-count-init
loop-count-init c = (
  omega arith,
  c.requires.count,
  c.requires.lines,
  none_on c.args.control.now c.args.tlb.now c.args.regs.now c.args.mem.now c.args.window.now c.requires.stretch.windowed,
)

pub loop-count-preserved : goal.loop-count-preserved
loop-count-preserved c =
    let inv = c.loop-count.invariant in (
      omega (arith, c.loop-count-test.true, c.line_turns-made.ensures.most, inv.0),
      c.find_line.ensures.length ∙ inv.1,
      lines_on c.args.control.now c.args.tlb.now c.line_turns-made.result c.loop-count.regs c.line_turns-made.new.regs c.loop-count.mem
          c.line_turns-made.new.mem c.loop-count.window c.line_turns-made.new.window c.line_turns-made.ensures.made c.args.codes.now
          (stretch_on c.args.control.now c.args.tlb.now c.loop-count.count c.args.regs.now c.loop-count.regs c.args.mem.now c.loop-count.mem
          c.args.window.now c.loop-count.window inv.3 c.args.codes.now c.requires.stretch) c.args.stamp c.find_line.new.lines.items c.find_line.ensures.lines,
      more_on c.args.control.now c.args.tlb.now c.loop-count.count c.line_turns-made.result c.args.regs.now c.loop-count.regs c.line_turns-made.new.regs
          c.args.mem.now c.loop-count.mem c.line_turns-made.new.mem c.args.window.now c.loop-count.window c.line_turns-made.new.window inv.3
          c.line_turns-made.ensures.made,
    )

pub find_line-requires-clause-codes : goal.find_line-requires-clause-codes
find_line-requires-clause-codes c =
    codes_lie (length c.loop-count.mem) c.args.control.now c.loop-count.regs.cpl c.args.tlb.now c.args.codes.now
    (stretch_on c.args.control.now c.args.tlb.now c.loop-count.count c.args.regs.now c.loop-count.regs c.args.mem.now c.loop-count.mem
    c.args.window.now c.loop-count.window c.loop-count.invariant.3 c.args.codes.now c.requires.stretch).kept

pub line_turns-made-requires-clause-stretch : goal.line_turns-made-requires-clause-stretch
line_turns-made-requires-clause-stretch c =
    page_stretch (length c.loop-count.mem) c.args.control.now c.loop-count.regs.cpl c.args.tlb.now c.code_for-code.result.now c.args.codes.now c.loop-count.window c.loop-count.mem c.index-line.result.now
    (stretch_on c.args.control.now c.args.tlb.now c.loop-count.count c.args.regs.now c.loop-count.regs c.args.mem.now c.loop-count.mem
    c.args.window.now c.loop-count.window c.loop-count.invariant.3 c.args.codes.now c.requires.stretch)
    (found_chosen c.args.stamp c.args.codes.now c.loop-count.mem c.find_line.new.lines.items c.line_slot-slot.result c.index-line.result.now c.rip-rip.result c.code_for-code.result.now
    c.find_line.ensures.lines (search rules) c.index-line.ensures (c.find_line.ensures.stamp c.if-not-find_line.false) (c.find_line.ensures.at c.if-not-find_line.false) c.code_for-code.ensures)
    (found_code c.args.stamp c.args.codes.now c.loop-count.mem c.find_line.new.lines.items c.line_slot-slot.result c.index-line.result.now c.rip-rip.result c.code_for-code.result.now
    c.find_line.ensures.lines (search rules) c.index-line.ensures (c.find_line.ensures.stamp c.if-not-find_line.false) (c.find_line.ensures.at c.if-not-find_line.false) c.code_for-code.ensures)
    (found_line c.args.stamp c.args.codes.now c.loop-count.mem c.find_line.new.lines.items c.line_slot-slot.result c.index-line.result.now c.rip-rip.result c.code_for-code.result.now
    c.find_line.ensures.lines (search rules) c.index-line.ensures (c.find_line.ensures.stamp c.if-not-find_line.false) (c.find_line.ensures.at c.if-not-find_line.false) c.code_for-code.ensures).by.some

pub line_turns-made-requires-clause-code : goal.line_turns-made-requires-clause-code
line_turns-made-requires-clause-code c =
    found_code c.args.stamp c.args.codes.now c.loop-count.mem c.find_line.new.lines.items c.line_slot-slot.result c.index-line.result.now c.rip-rip.result c.code_for-code.result.now
    c.find_line.ensures.lines (search rules) c.index-line.ensures (c.find_line.ensures.stamp c.if-not-find_line.false) (c.find_line.ensures.at c.if-not-find_line.false) c.code_for-code.ensures

pub returns-then-made-eq0-clause-made : goal.returns-then-made-eq0-clause-made
returns-then-made-eq0-clause-made c =
    more_on c.args.control.now c.args.tlb.now c.loop-count.count c.line_turns-made.result c.args.regs.now c.loop-count.regs c.line_turns-made.new.regs
    c.args.mem.now c.loop-count.mem c.line_turns-made.new.mem c.args.window.now c.loop-count.window c.line_turns-made.new.window c.loop-count.invariant.3
    c.line_turns-made.ensures.made
