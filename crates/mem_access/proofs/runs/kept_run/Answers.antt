use Rattle.std.proofs.Common.{length, sym, ◌∙◌, arith}
use Rattle.mem_access.proofs.RunPlaces.{run_kept}
use Rattle.mem_access.proofs.runs.kept_run.Goals as goal

pub returns-in-Some : goal.returns-in-Some
returns-in-Some c =
    run_kept (record { held = c.access_law.ensures.held; found_again = c.access_law.ensures.found_again }) c.args.mem.now c.args.access c.args.control.now
    c.args.cpl c.args.tlb.now c.args.va c.args.count c.in-Some.place (length c.args.mem.now) c.ranges.va.fits (omega (arith, c.if-va-from-gt-PAGE_SIZE.false, c.from.ensures))
    (sym c.canonical.ensures.value ∙ c.if-not-canonical.false) c.in-Some.ensures.place c.in-Some.ensures.agrees c.in-Some.ensures.inside
