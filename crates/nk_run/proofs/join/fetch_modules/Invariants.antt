use Rattle.std.proofs.Common.{◌≡◌, length, map}
use Rattle.nk_host.specs.FaultCounts.{NeverFalls}
use Rattle.nk_host.specs.Told.{IfTold}
use Rattle.nk_run.proofs.ModuleFetches.{IsFetched}
use Rattle.nk_run.proofs.join.fetch_modules.Given as goal

abbrev pub invariant-loop-i : goal.invariant-loop-i
invariant-loop-i g l = record {
  same_files : g.S.Shelf.files l.shelf ≡ g.S.Shelf.files l.initial.shelf;
  falls : NeverFalls (g.S.Shelf.faults l.initial.shelf) (g.S.Shelf.faults l.shelf);
  count : length l.modules.items ≡ l.i;
  fetched : IfTold (g.S.Shelf.files l.initial.shelf)
      (λ files. IsFetched files l.list l.i (map (λ m. m.items) l.modules.items));
}
