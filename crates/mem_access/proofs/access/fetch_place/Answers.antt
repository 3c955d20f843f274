use Rattle.std.proofs.Common.{sym, ◌∙◌, arith}
use Rattle.nk_bits.specs.declared.access.Access.TheVariants.{Fetch}
use Rattle.page_walk.specs.MemoryAccess.{view_of}
use Rattle.mem_access.proofs.Canonical.{first_tells}
use Rattle.mem_access.proofs.Spans.{one_byte}
use Rattle.mem_access.proofs.Steps.{first_place}
use Rattle.mem_access.proofs.access.fetch_place.Goals as goal

pub returns-clause-outcome : goal.returns-clause-outcome
returns-clause-outcome c =
    c.place.ensures.outcome
    ∙ sym (first_place (view_of c.args.mem.now c.args.control.now c.args.cpl) Fetch c.args.tlb.now c.args.va 1 (one_byte c.args.va)
    (first_tells c.args.va 1 (omega arith) (omega arith) (one_byte c.args.va)))
