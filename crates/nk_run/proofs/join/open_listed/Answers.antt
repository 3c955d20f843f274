use Rattle.std.proofs.Common.{[], ◌∷◌, refl}
use Rattle.code_modules.specs.ModuleList.{list_of}
use Rattle.command_words.specs.declared.command_line.Role.TheVariants.{ModuleList}
use Rattle.nk_run.specs.Outcome.{file_in, test, well_listed}
use Rattle.nk_run.proofs.Rows.{first_stops, stops_behind}
use Rattle.nk_run.proofs.join.open_listed.Goals as goal

pub returns-in-Err-open_list-clause-opened : goal.returns-in-Err-open_list-clause-opened
returns-in-Err-open_list-clause-opened g c =
    stops_behind _ _ _ _ c.in-Ok.image _ _ _ _ c.in-Ok.ensures.never_falls c.in-Ok.ensures.files_stay c.in-Ok.ensures.opened
    (first_stops _ _ ModuleList (λ files. test (well_listed (list_of (file_in files c.args.request.now ModuleList))) ∷ []) _ _ refl
    c.in-Err-open_list.ensures.opened)
