use Rattle.std.proofs.Common.{◌≡◌, ℕ, ◌≤◌, None, Some, Bool, List, Vec, Global, arith, ap, sym, subst, drop, length, map, ◌∙◌}
use Rattle.std.proofs.lemmas.List.{length-map}
use Rattle.std.specs.List.{sum_by}
use Rattle.elf_image.specs.Pages.{entry_of}
use Rattle.elf_image.specs.Rows.{first_fault}
use Rattle.code_modules.specs.JoinAnswers.{join_answer, modules_with, part_pages}
use Rattle.code_modules.specs.JoinedFile.{file_from, placed_parts}
use Rattle.code_modules.specs.JoinedParts.{CodeModule, JoinedPart, joined_parts}
use Rattle.code_modules.specs.PartWords.{as_file_part, as_part, part_of, parts_answer}
use Rattle.code_modules.proofs.JoinSteps.{all_count, all_fit, all_known, count_parts, err_answer, first_is, is_answer, is_empty_answer, laid_count, laid_few, no_fit_answer, ok_answer, whole_known, with_length}
use Rattle.code_modules.proofs.image_join.join.Goals as goal

abbrev bytes_of : Vec ℕ Global → List ℕ
bytes_of m = m.items

abbrev modules_of : List (Vec ℕ Global) → List Bool → List CodeModule
modules_of modules guards = modules_with guards (map bytes_of modules)

pub returns-in-Some-clause-fault : goal.returns-in-Some-clause-fault
returns-in-Some-clause-fault c =
    let modules = length-map c.args.modules.now bytes_of in
    is_empty_answer c.args.image.now (modules_of c.args.modules.now c.args.guards.now) c.in-Some.i
    (first_is c.args.guards.now (map bytes_of c.args.modules.now) (Some c.in-Some.i) (omega arith) c.in-Some.ensures)

pub returns-in_default-lay_out-clause-fault : goal.returns-in_default-lay_out-clause-fault
returns-in_default-lay_out-clause-fault c =
    let modules = length-map c.args.modules.now bytes_of in
    no_fit_answer c.args.image.now (modules_of c.args.modules.now c.args.guards.now)
    (first_is c.args.guards.now (map bytes_of c.args.modules.now) None (omega arith) c.in_default.ensures) c.in_default-lay_out.ensures

pub split_at-requires : goal.split_at-requires
split_at-requires c =
    let count = laid_count c.args.image.now (modules_of c.args.modules.now c.args.guards.now) c.in-Some-lay_out.layout.parts.items c.in-Some-lay_out.layout.end c.in-Some-lay_out.ensures in
    omega (arith, count, ap length c.as_slice.ensures.value, c.segments.ensures.count, ap length c.requires.headers.listed)

pub directory_of-directory-requires : goal.directory_of-directory-requires
directory_of-directory-requires c =
    let modules = length-map c.args.modules.now bytes_of in
    let given = with_length c.args.guards.now (map bytes_of c.args.modules.now) (omega arith) in
    let count = laid_count c.args.image.now (modules_of c.args.modules.now c.args.guards.now) c.in-Some-lay_out.layout.parts.items c.in-Some-lay_out.layout.end c.in-Some-lay_out.ensures in
    omega (arith, count, given, ap length c.as_slice.ensures.value, c.segments.ensures.count, ap length c.requires.headers.listed, c.split_at.ensures.back_len)

pub add-requires-clause-room : goal.add-requires-clause-room
add-requires-clause-room c =
    laid_few c.args.image.now (modules_of c.args.modules.now c.args.guards.now) c.in-Some-lay_out.layout.parts.items c.in-Some-lay_out.layout.end c.in-Some-lay_out.ensures

-- the parts are those of the definition, each in its place
whole : (c : goal.After-as_slice-3) → map as_file_part c.as_slice-3.result.now ≡ placed_parts (joined_parts c.args.image.now (modules_of c.args.modules.now c.args.guards.now))
whole c =
    ap (map as_file_part) c.as_slice-3.ensures.value
    ∙ whole_known c.args.image.now (modules_of c.args.modules.now c.args.guards.now) c.in-Some-lay_out.layout.parts.items c.in-Some-lay_out.layout.end
    c.in-Some-lay_out.ensures c.segments.result c.split_at.result.1.now c.add.new.self.parts.items c.as_slice-2.result.now
    (as_part c.directory_part.result) (c.segments.ensures.count ∙ ap length c.requires.headers.listed)
    (c.split_at.ensures.back ∙ ap (drop c.segments.result) c.as_slice.ensures.value) (c.as_slice-2.ensures.value ∙ c.directory_of-directory.ensures)
    c.directory_part.ensures c.add.ensures.listed

known : (c : goal.After-as_slice-3) → map part_of c.as_slice-3.result.now ≡ joined_parts c.args.image.now (modules_of c.args.modules.now c.args.guards.now)
known c = all_known (joined_parts c.args.image.now (modules_of c.args.modules.now c.args.guards.now)) c.as_slice-3.result.now (whole c)

pub checked_file-requires-clause-placed : goal.checked_file-requires-clause-placed
checked_file-requires-clause-placed c = whole c ∙ ap placed_parts (sym (known c))

pub checked_file-requires-clause-some : goal.checked_file-requires-clause-some
checked_file-requires-clause-some c =
    let parts = all_count (joined_parts c.args.image.now (modules_of c.args.modules.now c.args.guards.now)) c.as_slice-3.result.now (whole c) in
    omega (arith, parts, count_parts c.args.image.now (modules_of c.args.modules.now c.args.guards.now))

pub checked_file-requires-clause-few : goal.checked_file-requires-clause-few
checked_file-requires-clause-few c =
    let parts = all_count (joined_parts c.args.image.now (modules_of c.args.modules.now c.args.guards.now)) c.as_slice-3.result.now (whole c) in
    omega (arith, parts, c.in-Some-lay_out.ensures.few)

pub checked_file-requires-clause-form : goal.checked_file-requires-clause-form
checked_file-requires-clause-form c =
    let b : List ℕ = c.args.image.now in
    let joined : List CodeModule = modules_of c.args.modules.now c.args.guards.now in
    let modules = length-map c.args.modules.now bytes_of in
    let given = with_length c.args.guards.now (map bytes_of c.args.modules.now) (omega arith) in
    let full = first_is c.args.guards.now (map bytes_of c.args.modules.now) None (omega arith) c.in_default.ensures in
    let P : ℕ → List JoinedPart → Type 0 = λ entry parts. sum_by part_pages parts ≤ 8192 → first_fault (file_from entry parts) ≡ None in
    let here : P (entry_of b) (joined_parts b joined) = λ pages.
    c.joined_form.ensures b joined c.requires.headers.form (omega arith) full
    (all_fit b joined c.in-Some-lay_out.ensures.few pages c.in-Some-lay_out.ensures.below) in
    subst (λ (parts : List JoinedPart). P c.entry.result parts) (sym (known c))
    (subst (λ (entry : ℕ). P entry (joined_parts b joined)) (sym c.entry.ensures.entry) here)

same_answer : (c : goal.After-checked_file) → join_answer c.args.image.now (modules_of c.args.modules.now c.args.guards.now)
    ≡ parts_answer c.entry.result (map part_of c.as_slice-3.result.now)
same_answer c =
    let modules = length-map c.args.modules.now bytes_of in
    let joined : List CodeModule = modules_of c.args.modules.now c.args.guards.now in
    let full = first_is c.args.guards.now (map bytes_of c.args.modules.now) None (omega arith) c.in_default.ensures in
    is_answer c.args.image.now joined full c.in-Some-lay_out.ensures.few c.in-Some-lay_out.ensures.below c.entry.result c.entry.ensures.entry
    ∙ ap (parts_answer c.entry.result) (sym (all_known (joined_parts c.args.image.now joined) c.as_slice-3.result.now (ap (map as_file_part) c.as_slice-3.ensures.value
    ∙ whole_known c.args.image.now (modules_of c.args.modules.now c.args.guards.now) c.in-Some-lay_out.layout.parts.items c.in-Some-lay_out.layout.end
    c.in-Some-lay_out.ensures c.segments.result c.split_at.result.1.now c.add.new.self.parts.items c.as_slice-2.result.now
    (as_part c.directory_part.result) (c.segments.ensures.count ∙ ap length c.requires.headers.listed)
    (c.split_at.ensures.back ∙ ap (drop c.segments.result) c.as_slice.ensures.value) (c.as_slice-2.ensures.value ∙ c.directory_of-directory.ensures)
    c.directory_part.ensures c.add.ensures.listed)))

pub returns-clause-file : goal.returns-clause-file
returns-clause-file c =
    ok_answer (join_answer c.args.image.now (modules_of c.args.modules.now c.args.guards.now)) (parts_answer c.entry.result (map part_of c.as_slice-3.result.now))
    c.checked_file.result (same_answer c) c.checked_file.ensures.file

pub returns-clause-fault : goal.returns-clause-fault
returns-clause-fault c =
    err_answer (join_answer c.args.image.now (modules_of c.args.modules.now c.args.guards.now)) (parts_answer c.entry.result (map part_of c.as_slice-3.result.now))
    c.checked_file.result (same_answer c) c.checked_file.ensures.fault
