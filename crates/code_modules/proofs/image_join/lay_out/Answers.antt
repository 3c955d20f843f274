use Rattle.std.proofs.Common.{◌≡◌, ℕ, ◌+◌, true, [], ◌∷◌, ◌++◌, List, Vec, Global, arith, ap, sym, subst, length, map, ◌∙◌}
use Rattle.std.specs.List.{list_all}
use Rattle.std.proofs.lemmas.List.{length-map}
use Rattle.code_modules.specs.JoinAnswers.{ends_before_directory, modules_with}
use Rattle.code_modules.specs.JoinedFile.{data_start}
use Rattle.code_modules.specs.JoinedParts.{CodeModule, directory_part, joined_parts, module_parts, modules_behind}
use Rattle.code_modules.specs.PartWords.{Leads, as_file_part}
use Rattle.code_modules.proofs.JoinSteps.{count_parts, placing_starts, too_late, too_many, with_length}
use Rattle.code_modules.proofs.image_join.lay_out.Goals as goal

abbrev bytes_of : Vec ℕ Global → List ℕ
bytes_of m = m.items

pub returns-then-count-gt-MOST_PARTS : goal.returns-then-count-gt-MOST_PARTS
returns-then-count-gt-MOST_PARTS c =
    let joined : List CodeModule = modules_with c.args.guards.now (map bytes_of c.args.modules.now) in
    let modules = length-map c.args.modules.now bytes_of in
    let count = with_length c.args.guards.now (map bytes_of c.args.modules.now) (omega arith) in
    too_many c.args.image.now joined
    (omega (arith, count_parts c.args.image.now joined, ap length c.requires.headers.listed, count, modules))

pub returns-then-not-add_modules : goal.returns-then-not-add_modules
returns-then-not-add_modules c =
    let joined : List CodeModule = modules_with c.args.guards.now (map bytes_of c.args.modules.now) in
    too_late c.args.image.now joined
    (ap (λ e. list_all ends_before_directory (module_parts e joined)) (sym c.image_end.ensures.end) ∙ c.if-not-add_modules.ensures.placed)

pub returns : goal.returns
returns c =
    let b : List ℕ = c.args.image.now in
    let joined : List CodeModule = modules_with c.args.guards.now (map bytes_of c.args.modules.now) in
    let modules = length-map c.args.modules.now bytes_of in
    let few = with_length c.args.guards.now (map bytes_of c.args.modules.now) (omega arith) in
    let total = count_parts c.args.image.now (modules_with c.args.guards.now (map bytes_of c.args.modules.now)) in
    let count : c.segments.result + length c.args.modules.now + 1 ≡ length (joined_parts c.args.image.now (modules_with c.args.guards.now (map bytes_of c.args.modules.now))) =
    omega (arith, total, ap length c.requires.headers.listed, few, modules) in
    let start : ℕ = data_start (length (joined_parts b joined)) in
    let begun = placing_starts start (joined_parts b joined) (map as_file_part c.new-layout.result.parts.items) c.new-layout.result.end
    (ap (map as_file_part) c.new-layout.ensures.none) (c.new-layout.ensures.end ∙ ap data_start count) in
    let image = c.add_image.ensures.placed start (joined_parts b joined) (modules_behind b joined ++ directory_part (modules_behind b joined) ∷ []) begun in
    let P : ℕ → Type 0 = λ e. (list_all ends_before_directory (module_parts e joined) ≡ true)
    × Leads (map as_file_part c.add_image.new.layout.parts.items) c.add_image.new.layout.end
    (map as_file_part c.add_modules.new.layout.parts.items) c.add_modules.new.layout.end (module_parts e joined) [] in
    let behind = subst P c.image_end.ensures.end c.if-not-add_modules.ensures.placed in
    record {
      few = omega arith;
      below = behind.0;
      placed_to = behind.1 start (joined_parts b joined) (directory_part (modules_behind b joined) ∷ []) image;
      small = omega arith;
    }
