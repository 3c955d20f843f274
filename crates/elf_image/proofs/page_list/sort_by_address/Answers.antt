use Rattle.std.proofs.Common.{rules}
use Rattle.std.proofs.lemmas.List.Sorted.{IsNonDecreasingBy-from_sort_by_key}
use Rattle.arrayvec.proofs.ArrayVecLemmas.{items-with_items}
use Rattle.elf_image.specs.declared.program_header.ProgramHeader.{ProgramHeader}
use Rattle.elf_image.proofs.page_list.sort_by_address.Goals as goal

pub returns-clause-ascending : goal.returns-clause-ascending
returns-clause-ascending c = rw (items-with_items c.args.segments.now c.sort_unstable_by_key.new.self (search rules))
    (IsNonDecreasingBy-from_sort_by_key (λ (s : ProgramHeader). s.address) _ c.sort_unstable_by_key.ensures.sorted (λ a r q k. search rules))
