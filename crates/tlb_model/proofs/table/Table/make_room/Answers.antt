use Rattle.std.proofs.Common.{◌<◌, ap, arith, drop, length, sym, ◌∙◌}
use Rattle.tlb_model.specs.TranslationTable.{pairs_of}
use Rattle.tlb_model.proofs.Cleaned.{full_excess, no_excess}
use Rattle.tlb_model.proofs.table.Table.make_room.Goals as goal

pub returns-then-self-eq-SLOTS-clause-youngest : goal.returns-then-self-eq-SLOTS-clause-youngest
returns-then-self-eq-SLOTS-clause-youngest c =
    c.lose_oldest.ensures.youngest
    ∙ ap (λ n. drop n (pairs_of c.args.self.now)) (sym (full_excess (length (pairs_of c.args.self.now)) (sym c.requires.table.listed ∙ c.if-self-eq-SLOTS.true)))

pub returns-else-self-eq-SLOTS-clause-youngest : goal.returns-else-self-eq-SLOTS-clause-youngest
returns-else-self-eq-SLOTS-clause-youngest c =
    let room : length (pairs_of c.args.self.now) < 1024 = omega (arith, c.requires.table.listed, c.requires.table.ordered.most, c.if-self-eq-SLOTS.false) in
    ap (λ n. drop n (pairs_of c.args.self.now)) (sym (no_excess (length (pairs_of c.args.self.now)) room))
