use Rattle.std.proofs.Common.{◌≡◌, arith, ap, refl, map, ◌∙◌}
use Rattle.elf_image.specs.Rows.{first_fault}
use Rattle.byte_scanner.specs.FirstFound.{first_found}
use Rattle.code_modules.specs.JoinAnswers.{unless_protected}
use Rattle.code_modules.specs.JoinedFile.{file_from}
use Rattle.code_modules.specs.PartWords.{part_of, parts_answer}
use Rattle.code_modules.proofs.JoinSteps.{all_file, all_follow, err_comes, file_comes, ok_answer, pages_of_parts, too_many_pages}
use Rattle.code_modules.proofs.image_join.checked_file.Goals as goal

pub returns-then-total_pages-gt-MOST_PAGES-clause-fault : goal.returns-then-total_pages-gt-MOST_PAGES-clause-fault
returns-then-total_pages-gt-MOST_PAGES-clause-fault c =
    too_many_pages c.args.entry (map part_of c.args.parts.now) (omega (arith, c.total_pages.ensures, pages_of_parts c.args.parts.now))

pub write_file-requires-clause-follow : goal.write_file-requires-clause-follow
write_file-requires-clause-follow c = all_follow (map part_of c.args.parts.now) c.args.parts.now c.requires.placed

-- the file is that of the parts
is_file : (c : goal.In-Some) → c.in-Some.file.items ≡ file_from c.args.entry (map part_of c.args.parts.now)
is_file c = all_file (map part_of c.args.parts.now) c.args.parts.now c.requires.placed c.args.entry c.args.entry c.in-Some.file.items refl c.in-Some.ensures

pub unless_protected-requires : goal.unless_protected-requires
unless_protected-requires c =
    ap first_fault (is_file c) ∙ c.requires.form (omega (arith, c.total_pages.ensures, pages_of_parts c.args.parts.now))

same_answer : (c : goal.After-unless_protected)
    → parts_answer c.args.entry (map part_of c.args.parts.now) ≡ unless_protected c.in-Some.file.items (first_found c.in-Some.file.items)
same_answer c =
    file_comes c.args.entry (map part_of c.args.parts.now) c.in-Some.file.items
    (omega (arith, c.total_pages.ensures, pages_of_parts c.args.parts.now))
    (all_file (map part_of c.args.parts.now) c.args.parts.now c.requires.placed c.args.entry c.args.entry c.in-Some.file.items refl c.in-Some.ensures)

pub returns-clause-file : goal.returns-clause-file
returns-clause-file c =
    ok_answer (parts_answer c.args.entry (map part_of c.args.parts.now)) (unless_protected c.in-Some.file.items (first_found c.in-Some.file.items))
    c.unless_protected.result (same_answer c) c.unless_protected.ensures.file

pub returns-clause-fault : goal.returns-clause-fault
returns-clause-fault c =
    err_comes (parts_answer c.args.entry (map part_of c.args.parts.now)) (unless_protected c.in-Some.file.items (first_found c.in-Some.file.items))
    c.unless_protected.result (same_answer c) c.unless_protected.ensures.fault
