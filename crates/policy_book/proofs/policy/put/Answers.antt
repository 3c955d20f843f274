use Rattle.std.proofs.Common.{◌≡◌, ◌+◌, ◌≤◌, true, length, ap, sym, subst, ◌∙◌}
use Rattle.region_book.specs.RegionBytes.{book_in}
use Rattle.region_book.specs.RegionCalls.{fits_region}
use Rattle.region_book.specs.RegionRecords.{IsBook, region_of}
use Rattle.write_log.specs.LogBytes.{log_in}
use Rattle.write_log.specs.LogRecords.{logged, room_of}
use Rattle.policy_book.proofs.FoundRegions.{has_id}
use Rattle.policy_book.proofs.Writes.{logged_is, none_fits, none_has_room, not_unlogged, shown_logged}
use Rattle.policy_book.proofs.policy.put.Goals as goal

pub mark-requires-clause-fits : goal.mark-requires-clause-fits
mark-requires-clause-fits c =
    subst (λ o. fits_region o c.args.offset (length c.args.bytes.now) ≡ true) c.requires.found.1
    (none_fits (log_in c.args.log.now c.args.mem.now) c.args.offset (length c.args.bytes.now)
    (region_of (book_in c.args.regions.now c.args.mem.now) c.args.id) c.requires.judged)

pub note-requires-clause-room : goal.note-requires-clause-room
note-requires-clause-room c =
    subst (λ log. 24 + length c.args.bytes.now ≤ room_of log) (sym c.mark.ensures.log)
    (none_has_room (log_in c.args.log.now c.args.mem.now) c.args.offset (length c.args.bytes.now)
    (region_of (book_in c.args.regions.now c.args.mem.now) c.args.id) c.requires.judged (shown_logged (region_of (book_in c.args.regions.now c.args.mem.now) c.args.id) c.args.live.now.region c.requires.found.2
    (sym c.is_logged.ensures ∙ c.if-is_logged.true)))

pub returns-then-is_logged-clause-log : goal.returns-then-is_logged-clause-log
returns-then-is_logged-clause-log c =
    c.note.ensures.log ∙ ap (λ log. logged log c.args.id c.args.offset c.args.bytes.now) c.mark.ensures.log
    ∙ logged_is (log_in c.args.log.now c.args.mem.now) c.args.offset (length c.args.bytes.now) (region_of (book_in c.args.regions.now c.args.mem.now) c.args.id)
    c.args.id c.args.bytes.now c.requires.judged (shown_logged (region_of (book_in c.args.regions.now c.args.mem.now) c.args.id) c.args.live.now.region c.requires.found.2
    (sym c.is_logged.ensures ∙ c.if-is_logged.true)) (has_id (book_in c.args.regions.now c.args.mem.now) c.args.id)

pub returns-then-is_logged-clause-sound : goal.returns-then-is_logged-clause-sound
returns-then-is_logged-clause-sound c = subst IsBook (sym c.note.ensures.book) c.mark.ensures.sound

pub returns-then-is_logged-clause-unlogged : goal.returns-then-is_logged-clause-unlogged
returns-then-is_logged-clause-unlogged c = λ off. absurd
    (not_unlogged (log_in c.args.log.now c.args.mem.now) c.args.offset (length c.args.bytes.now)
    (region_of (book_in c.args.regions.now c.args.mem.now) c.args.id) c.requires.judged (shown_logged (region_of (book_in c.args.regions.now c.args.mem.now) c.args.id) c.args.live.now.region c.requires.found.2
    (sym c.is_logged.ensures ∙ c.if-is_logged.true)) off)
