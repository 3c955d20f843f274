use Rattle.std.proofs.Common.{length, refl, subst, sym}
use Rattle.nk_body.specs.NestedRecord.{Nested, nested_held}
use Rattle.nk_run.specs.Replies.{LiesWithin}
use Rattle.nk_run.proofs.AuditRows.{audit_is, audit_row_says, noregion_says}
use Rattle.nk_run.proofs.audit.make_audit.Goals as goal

pub returns-in-Err-clause-made : goal.returns-in-Err-clause-made
returns-in-Err-clause-made g c =
    audit_row_says c.args.request.now c.args.frames c.args.id c.requires.asked _ _ _ c.in-Err.ensures.made

pub returns-in-Ok-take_room-clause-made : goal.returns-in-Ok-take_room-clause-made
returns-in-Ok-take_room-clause-made g c =
    let it = c.in-Ok.replayed in
    let made = c.in-Ok.ensures.made in
    let bytes = c.in-Ok-take_room.auditing in
    let (sized, fresh, within) = c.in-Ok-take_room.ensures in
    record {
      fresh = fresh;
      log_is = made.books_are.log;
      within = subst (λ (nk : Nested). LiesWithin c.args.id (length bytes) nk.ledger.log) (sym made.made) within;
      outcome_is = audit_is c.args.request.now c.args.frames c.args.id c.requires.asked _ it.opened.image it.journal.items made.passed
          it.opened.layout.frames made.frames_are (length bytes) sized (nested_held it.left.kernel it.left.memory) made.made;
    }

pub returns-in-Err-take_room-clause-made : goal.returns-in-Err-take_room-clause-made
returns-in-Err-take_room-clause-made g c =
    noregion_says c.args.request.now c.args.frames c.args.id c.requires.asked _ _ c.in-Ok.replayed.journal.items c.in-Ok.ensures.made.passed _ _ _ refl
    c.in-Err-take_room.ensures
