use Rattle.std.proofs.Common.{◌+◌, ◌≤◌, length, arith, subst, sym, ap, ◌∙◌}
use Rattle.write_log.specs.LogBytes.{HoldsLog, LogCounts, log_in}
use Rattle.write_log.specs.LogRecords.{LogRecord, logged, room_of}
use Rattle.write_log.proofs.AddedRecords.{IsAdded, is_added}
use Rattle.write_log.proofs.log.Log.add.Goals as goal
use Rattle.write_log.proofs.log.Log.add.Goals.{After-self-2-1}

abbrev before : After-self-2-1 → LogCounts
before c = record { records = c.self.inside.records; used = c.self.inside.used }

abbrev written : After-self-2-1 → LogRecord
written c = record { region = c.args.region; offset = c.args.offset; bytes = c.args.bytes.now }

one_added : (c : After-self-2-1) → IsAdded (before c) (written c) c.args.mem.now c.put.new.mem
one_added c =
    is_added (before c) c.from-place.result c.from.result (written c) c.args.mem.now c.put.new.mem
    (omega arith) c.from.ensures
    (subst (λ k. HoldsLog k c.args.mem.now) (sym c.self.view_is) c.requires.held)
    (subst (λ k. 24 + length c.args.bytes.now ≤ room_of (log_in k c.args.mem.now)) (sym c.self.view_is) c.requires.room)
    c.put.ensures

pub returns-clause-added : goal.returns-clause-added
returns-clause-added c =
    (one_added c).one_more
    ∙ ap (λ k. logged (log_in k c.args.mem.now) c.args.region c.args.offset c.args.bytes.now) c.self.view_is

pub returns-clause-held : goal.returns-clause-held
returns-clause-held c = (one_added c).held
