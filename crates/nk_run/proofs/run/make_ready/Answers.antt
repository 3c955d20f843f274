use Rattle.std.proofs.Common.{refl, subst, sym}
use Rattle.nk_run.specs.RunsBegun.{MayRun}
use Rattle.nk_run.proofs.RunRows.{ready_says, run_room_says, run_row_says}
use Rattle.nk_run.proofs.RunsBegun.{may_run}
use Rattle.nk_run.proofs.run.make_ready.Goals as goal

pub returns-in-Err-clause-ready : goal.returns-in-Err-clause-ready
returns-in-Err-clause-ready g c =
    run_row_says _ c.args.steps c.args.frames c.requires.asked _ _ _ c.in-Err.ensures.held

pub returns-in-Err-divide-clause-ready : goal.returns-in-Err-divide-clause-ready
returns-in-Err-divide-clause-ready g c =
    run_room_says _ c.args.steps c.args.frames c.requires.asked _ _ _ _ c.in-Ok.ensures.held.1 _ _ _ refl c.in-Err-divide.ensures

pub returns-in-Ok-divide-clause-ready : goal.returns-in-Ok-divide-clause-ready
returns-in-Ok-divide-clause-ready g c =
    let held = c.in-Ok.held in
    let opened = c.in-Ok-divide.opened in
    let (same, layout_is, frames_are, fits) = c.in-Ok-divide.ensures in
    subst
    (λ image. MayRun c.args.request.now (g.S.Shelf.files c.args.shelf.now) c.args.steps image opened.layout held.outside.input.items held.outside.plan)
    (sym same)
    (may_run c.args.request.now _ c.args.steps c.args.frames held.image opened.layout held.outside.input.items held.outside.plan
    c.requires.asked c.requires.bounds.0 layout_is frames_are c.in-Ok.ensures.held.0
    (ready_says c.args.request.now c.args.steps c.args.frames c.requires.asked
    _ held.image held.outside.input.items held.outside.plan c.in-Ok.ensures.held.1 fits))
