use Rattle.std.proofs.Common.{length, sym, ◌∙◌, arith}
use Rattle.page_walk.specs.MemoryAccess.{view_of}
use Rattle.mem_access.proofs.Canonical.{first_tells}
use Rattle.mem_access.proofs.Spans.{target_of_one}
use Rattle.mem_access.proofs.Steps.{page_found, page_faults}
use Rattle.mem_access.proofs.access.access.Goals as goal

pub returns-in-Ok-clause-outcome : goal.returns-in-Ok-clause-outcome
returns-in-Ok-clause-outcome c =
    let one = sym c.crosses.ensures ∙ c.if-crosses.false in
    page_found (view_of c.args.mem.now c.args.control.now c.args.cpl) c.args.access c.args.tlb.now c.args.va c.args.width one
    (first_tells c.args.va c.args.width (omega arith) (omega arith) one) c.place.result c.place.new.tlb c.place.ensures.outcome c.in-Ok.first c.in-Ok.is

pub returns-in-Ok-clause-places : goal.returns-in-Ok-clause-places
returns-in-Ok-clause-places c =
    target_of_one (length c.args.mem.now) c.args.va c.args.width c.in-Ok.first c.in-Ok.ensures.agrees c.in-Ok.ensures.inside (sym c.crosses.ensures ∙ c.if-crosses.false)

pub returns-in-Err-clause-outcome : goal.returns-in-Err-clause-outcome
returns-in-Err-clause-outcome c =
    let one = sym c.crosses.ensures ∙ c.if-crosses.false in
    page_faults (view_of c.args.mem.now c.args.control.now c.args.cpl) c.args.access c.args.tlb.now c.args.va c.args.width one
    (first_tells c.args.va c.args.width (omega arith) (omega arith) one) c.place.result c.place.new.tlb c.place.ensures.outcome c.in-Err.fault c.in-Err.is
