use Rattle.std.proofs.Common.{◌-◌, ◌%◌, arith, sym, ◌∙◌}
use Rattle.mem_access.proofs.Frames.{serves_its_page}
use Rattle.mem_access.proofs.kept.kept_frame.Goals as goal

pub returns-in-Some-clause-place : goal.returns-in-Some-clause-place
returns-in-Some-clause-place c = λ m at fits same.
    serves_its_page (record { held = c.access_law.ensures.held; found_again = c.access_law.ensures.found_again }) c.args.mem.now m c.args.access c.args.control.now c.args.cpl
    c.args.tlb.now c.args.va c.in-Some.place (sym c.canonical.ensures.value ∙ c.if-not-canonical.false) c.in-Some.ensures.place
    at (c.in-Some.place - c.args.va % 4096) (omega (arith, c.in-Some.ensures.agrees)) fits same
