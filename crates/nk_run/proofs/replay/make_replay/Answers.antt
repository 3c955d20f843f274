use Rattle.std.proofs.Common.{◌≡◌, List, ℕ, refl, subst, sym}
use Rattle.boot_map.specs.Division.{IsLayout, need}
use Rattle.nk_run.specs.Outcome.{journal_checks, passes, roomy}
use Rattle.nk_run.specs.Replies.{HoldsReplay, IsReplayedFrom}
use Rattle.nk_run.proofs.RunRows.{held_stops, journal_stops, replay_passed, room_stops}
use Rattle.nk_run.proofs.replay.make_replay.Goals as goal

pub returns-in-Err-clause-made : goal.returns-in-Err-clause-made
returns-in-Err-clause-made g c = held_stops c.args.request.now c.args.frames _ _ _ c.in-Err.ensures.held

pub returns-in-Err-divide-clause-made : goal.returns-in-Err-divide-clause-made
returns-in-Err-divide-clause-made g c =
    room_stops c.args.request.now c.args.frames _ _ c.in-Ok.held.journal.items c.in-Ok.ensures.held.1 _ _ _ refl c.in-Err-divide.ensures

pub returns-in-Ok-make_calls-clause-made : goal.returns-in-Ok-make_calls-clause-made
returns-in-Ok-make_calls-clause-made g c =
    let it = c.in-Ok-divide.opened in
    let left = c.in-Ok-make_calls.left in
    let journal = c.deref.result.now in
    let same_journal = c.deref.ensures.value in
    let files = g.S.Shelf.files c.args.shelf.now in
    let (same, layout_is, frames_are, fits) = c.in-Ok-divide.ensures in
    let (right, made, books, size) = c.in-Ok-make_calls.ensures in
    let held = subst (λ (b : List ℕ). HoldsReplay c.args.request.now files it.image b (λ files. journal_checks files c.args.request.now))
    (sym same_journal)
    (subst (λ image. HoldsReplay c.args.request.now files image c.in-Ok.held.journal.items (λ files. journal_checks files c.args.request.now))
    (sym same) c.in-Ok.ensures.held.1) in
    subst (λ (b : List ℕ). IsReplayedFrom c.args.request.now files c.args.frames it.image b it.layout left.kernel left.memory) same_journal
    (record {
      layout_is = subst (λ image. IsLayout image it.layout) (sym same) layout_is;
      frames_are = frames_are;
      books_are = books;
      size = size;
      made = made;
      right = right;
      passed = replay_passed c.args.request.now c.args.frames _ it.image journal held
          (subst (λ image. roomy (need image c.args.frames) c.args.frames ≡ passes) (sym same) fits) it.layout.frames frames_are right;
    })

pub returns-in-Err-make_calls-clause-made : goal.returns-in-Err-make_calls-clause-made
returns-in-Err-make_calls-clause-made g c =
    let it = c.in-Ok-divide.opened in
    let journal = c.deref.result.now in
    let files = g.S.Shelf.files c.args.shelf.now in
    let (same, layout_is, frames_are, fits) = c.in-Ok-divide.ensures in
    let held = subst (λ (b : List ℕ). HoldsReplay c.args.request.now files it.image b (λ files. journal_checks files c.args.request.now))
    (sym c.deref.ensures.value)
    (subst (λ image. HoldsReplay c.args.request.now files image c.in-Ok.held.journal.items (λ files. journal_checks files c.args.request.now))
    (sym same) c.in-Ok.ensures.held.1) in
    journal_stops c.args.request.now c.args.frames _ it.image journal held
    (subst (λ image. roomy (need image c.args.frames) c.args.frames ≡ passes) (sym same) fits) it.layout.frames frames_are _ _ _ refl
    c.in-Err-make_calls.ensures
