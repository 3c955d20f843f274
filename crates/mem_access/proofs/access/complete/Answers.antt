use Rattle.std.proofs.Common.{◌≡◌, length, sym, subst, true}
use Rattle.nk_bits.specs.Paging.{is_canonical}
use Rattle.page_walk.specs.MemoryAccess.{view_of}
use Rattle.mem_access.proofs.Spans.{target_of_two}
use Rattle.mem_access.proofs.Steps.{second_found, second_faults}
use Rattle.mem_access.proofs.access.complete.Goals as goal

pub reach-requires-clause-canonical : goal.reach-requires-clause-canonical
reach-requires-clause-canonical c =
    subst (λ at. is_canonical at ≡ true) (sym c.next_page.ensures.page)
    (c.span_law.ensures.next c.args.va c.args.width c.requires.canonical c.requires.two)

pub returns-in-Ok-clause-outcome : goal.returns-in-Ok-clause-outcome
returns-in-Ok-clause-outcome c =
    second_found (view_of c.args.mem.now c.args.control.now c.args.cpl) c.args.access c.args.tlb.now c.args.va c.args.width c.args.first c.next_page.result c.reach.result c.reach.new.tlb
    c.requires.two c.next_page.ensures.page c.reach.ensures.outcome c.in-Ok.second c.in-Ok.is

pub returns-in-Ok-clause-places : goal.returns-in-Ok-clause-places
returns-in-Ok-clause-places c =
    target_of_two (length c.args.mem.now) c.args.va c.args.width c.args.first c.in-Ok.second c.next_page.result
    c.requires.agrees c.requires.inside c.next_page.ensures.start c.in-Ok.ensures.agrees c.in-Ok.ensures.inside c.requires.width.1

pub returns-in-Err-clause-outcome : goal.returns-in-Err-clause-outcome
returns-in-Err-clause-outcome c =
    second_faults (view_of c.args.mem.now c.args.control.now c.args.cpl) c.args.access c.args.tlb.now c.args.va c.args.width c.args.first c.next_page.result c.reach.result c.reach.new.tlb
    c.requires.two c.next_page.ensures.page c.reach.ensures.outcome c.in-Err.fault c.in-Err.is
