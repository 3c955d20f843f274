use Rattle.std.proofs.Common.{◌≡◌, ◌∙◌, [], ◌∷◌, ap, arith, inl, inr, length, length-append, map, Vec, Global, ℕ, List}
use Rattle.std.proofs.lemmas.List.{map-append}
use Rattle.file_scan.specs.ShelfChanges.{Files}
use Rattle.nk_run.specs.Outcome.{first_verdict, module_fetches, module_held, passes}
use Rattle.nk_run.proofs.ModuleFetches.{IsFetched, fetched_all, fetched_more, module_stops}
use Rattle.nk_run.proofs.Told.{if_told, told_at}
use Rattle.nk_run.proofs.join.fetch_modules.Goals as goal

abbrev bytes_of : Vec ℕ Global → List ℕ
bytes_of m = m.items

pub returns-in-Err-clause-fetched : goal.returns-in-Err-clause-fetched
returns-in-Err-clause-fetched g c = λ words modules_are.
    module_stops words _ _ _ c.args.list.now c.loop-i.i _ _ _ _ (omega arith) c.loop-i.invariant.falls c.loop-i.invariant.same_files
    modules_are c.name-name.ensures c.loop-i.invariant.fetched c.in-Err.ensures.fetched

pub loop-i-preserved : goal.loop-i-preserved
loop-i-preserved g c =
    let pushed = c.in_default.ensures.items in
    record {
      same_files = c.fetch_named.ensures.files_stay ∙ c.loop-i.invariant.same_files;
      falls = λ n. omega (arith, c.loop-i.invariant.falls n, c.fetch_named.ensures.never_falls n);
      count = omega (arith, ap length pushed, length-append c.loop-i.modules.items (c.in-Ok.bytes ∷ []), c.loop-i.invariant.count);
      fetched = if_told _ _ (λ files e.
          let held = told_at _ _ files (c.loop-i.invariant.same_files ∙ e) c.in-Ok.ensures.fetched in
          fetched_more files c.args.list.now c.loop-i.i _ _ _ c.in-Ok.bytes.items c.name-name.ensures held.0 held.1
          (ap (map bytes_of) pushed ∙ map-append bytes_of c.loop-i.modules.items (c.in-Ok.bytes ∷ []))
          (told_at _ _ files e c.loop-i.invariant.fetched));
    }

pub returns-in-Err-push-clause-fetched : goal.returns-in-Err-push-clause-fetched
returns-in-Err-push-clause-fetched g c = λ words modules_are. inr (inl c.no_memory.ensures)

pub returns-clause-fetched : goal.returns-clause-fetched
returns-clause-fetched g c =
    let told = g.S.Shelf.files c.args.shelf.now in
    let list = c.args.list.now in
    let bytes = map bytes_of c.loop-i.modules.items in
    let All : Files → Type 0 = λ files. (bytes ≡ map (λ it. (module_held files it).bytes) list)
    × (first_verdict (module_fetches files 0 list) ≡ passes) in
    let SoFar : Files → Type 0 = λ files. IsFetched files list c.loop-i.i bytes in
    if_told told All (λ files e. fetched_all files list c.loop-i.i bytes (omega (arith, c.len-i-end.ensures.length, c.loop-i-test.false))
    (told_at told SoFar files e c.loop-i.invariant.fetched))
