use Rattle.std.proofs.Common.{◌<◌, ◌^◌, sym, ◌∙◌, arith}
use Rattle.page_walk.specs.MemoryAccess.{view_of}
use Rattle.mem_access.proofs.Steps.{not_canonical, first_found, first_faults}
use Rattle.mem_access.proofs.access.access_across.Goals as goal

pub returns-then-not-has_canonical_bytes-clause-outcome : goal.returns-then-not-has_canonical_bytes-clause-outcome
returns-then-not-has_canonical_bytes-clause-outcome c =
    not_canonical (view_of c.args.mem.now c.args.control.now c.args.cpl) c.args.access c.args.tlb.now c.args.va c.args.width (sym c.has_canonical_bytes.ensures ∙ c.if-not-has_canonical_bytes.true)

pub reach-requires-clause-canonical : goal.reach-requires-clause-canonical
reach-requires-clause-canonical c =
    let fits : c.args.va < 2 ^ 64 = omega arith in
    c.span_law.ensures.first c.args.va c.args.width fits c.requires.width.0 (sym c.has_canonical_bytes.ensures ∙ c.if-not-has_canonical_bytes.false)

pub returns-in-Ok-clause-outcome : goal.returns-in-Ok-clause-outcome
returns-in-Ok-clause-outcome c =
    c.complete.ensures.outcome
    ∙ first_found (view_of c.args.mem.now c.args.control.now c.args.cpl) c.args.access c.args.tlb.now c.args.va c.args.width c.reach.result c.reach.new.tlb
    (sym c.has_canonical_bytes.ensures ∙ c.if-not-has_canonical_bytes.false) c.reach.ensures.outcome c.in-Ok.first c.in-Ok.is

pub returns-in-Err-clause-outcome : goal.returns-in-Err-clause-outcome
returns-in-Err-clause-outcome c =
    first_faults (view_of c.args.mem.now c.args.control.now c.args.cpl) c.args.access c.args.tlb.now c.args.va c.args.width c.reach.result c.reach.new.tlb
    (sym c.has_canonical_bytes.ensures ∙ c.if-not-has_canonical_bytes.false) c.reach.ensures.outcome c.in-Err.fault c.in-Err.is
