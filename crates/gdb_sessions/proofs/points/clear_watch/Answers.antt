use Rattle.std.proofs.Common.{rules, ◌≡◌, ◌==◌, ◌&&◌, not, filter, subst, sym}
use Rattle.std.proofs.lemmas.Fn.{filter_same}
use Rattle.gdb_sessions.specs.Standings.{AreWatches}
use Rattle.gdb_sessions.proofs.WatchesLeft.{watches_left}
use Rattle.gdb_sessions.proofs.points.clear_watch.Goals as goal

filtered : (c : goal.After-retain)
    → c.retain.new.self.items ≡ filter (λ it. not (it.address == c.args.address && it.count == c.args.count)) c.args.watches.now.items
filtered c = filter_same _ _ _ (λ x b f' k. search rules) _ _ c.retain.ensures.filtered

pub returns-clause-watches : goal.returns-clause-watches
returns-clause-watches c = filtered c

pub returns-clause-few : goal.returns-clause-few
returns-clause-few c =
    subst AreWatches (sym (filtered c))
    (watches_left (λ it. not (it.address == c.args.address && it.count == c.args.count)) c.args.watches.now.items c.requires)
