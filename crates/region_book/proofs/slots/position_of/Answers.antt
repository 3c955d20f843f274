use Rattle.std.proofs.Common.{arith, sym, ap, ◌∙◌}
use Rattle.std.proofs.lemmas.Bool.{eq-eqb}
use Rattle.region_book.specs.RegionBytes.{row_in}
use Rattle.region_book.proofs.SlotRows.{id_at, id_nowhere}
use Rattle.region_book.proofs.slots.position_of.Goals as goal

pub returns : goal.returns
returns c =
    id_nowhere c.args.mem.now c.args.id c.args.slots.now (λ k below. c.loop-i.invariant.none k (omega (arith, below)))

pub returns-then-id_in-id : goal.returns-then-id_in-id
returns-then-id_in-id c =
    id_at c.args.mem.now c.args.id c.args.slots.now c.loop-i.i (omega arith) c.loop-i.invariant.none
    (eq-eqb _ _ (ap (λ t. (row_in c.args.mem.now t).id) c.at.ensures.index ∙ sym c.id_in.ensures ∙ c.if-id_in-id.true))
