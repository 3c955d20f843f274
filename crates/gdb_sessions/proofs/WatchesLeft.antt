-- Watchpoints that are left see as few bytes as before.
use Rattle.std.proofs.Common.{◌≤◌, Bool, true, false, cond, List, [], ◌∷◌, filter}
use Rattle.std.proofs.lemmas.List.Elements.{All-cons, All-head, All-nil, All-tail}
use Rattle.run_moments.specs.declared.stops.Watch.{Watch}
use Rattle.gdb_sessions.specs.Standings.{AreWatches}

abbrev SeesFew : Watch → Type 0
SeesFew watch = watch.count ≤ 8

one_left : (b : Bool) (x : Watch) (later : List Watch) → SeesFew x → AreWatches later → AreWatches (cond b (x ∷ later) later)
one_left true x later few are = All-cons SeesFew x later few are
one_left false x later few are = are

pub watches_left : (p : Watch → Bool) (watches : List Watch) → AreWatches watches → AreWatches (filter p watches)
watches_left p [] are = All-nil SeesFew
watches_left p (x ∷ later) are =
    one_left (p x) x (filter p later) (All-head SeesFew x later are) (watches_left p later (All-tail SeesFew x later are))
