use Rattle.std.proofs.Common.{◌≡◌, ◌-◌, sym, ◌∙◌, arith}
use Rattle.nk_bits.specs.Accesses.{address_of}
use Rattle.mem_access.proofs.Canonical.{last_tells, first_not}
use Rattle.mem_access.proofs.span.has_canonical_bytes.Goals as goal

pub returns-then-canonical : goal.returns-then-canonical
returns-then-canonical c =
    let last : address_of c.args.va (c.from.result - 1) ≡ address_of c.args.va (c.args.width - 1) = omega arith in
    c.canonical-then-canonical.ensures.value
    ∙ last_tells c.args.va c.args.width (omega arith) (omega arith) (address_of c.args.va (c.from.result - 1)) (omega arith) last (sym c.canonical.ensures.value ∙ c.if-canonical.true)

pub returns-else-canonical : goal.returns-else-canonical
returns-else-canonical c =
    c.if-canonical.false ∙ sym (first_not c.args.va c.args.width (omega arith) (omega arith) (sym c.canonical.ensures.value ∙ c.if-canonical.false))
