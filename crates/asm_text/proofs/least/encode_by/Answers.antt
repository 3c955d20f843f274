use Rattle.std.proofs.Common.{ap, length, sym, ◌∙◌}
use Rattle.std.proofs.lemmas.Bool.{eq-eqb, eqb-true, false≢true}
use Rattle.std.proofs.lemmas.List.{nil_from_length}
use Rattle.asm_text.proofs.Leasts.{least_is, none_spells}
use Rattle.asm_text.proofs.least.encode_by.Goals as goal

pub returns-then-is_empty-clause-none : goal.returns-then-is_empty-clause-none
returns-then-is_empty-clause-none c =
    let best = c.find_best.new.best.items in
    none_spells c.decoding_law.ensures c.rows_law.ensures c.args.instr.now
    (sym c.find_best.ensures ∙ nil_from_length best (eqb-true (length best) 0 (sym c.is_empty.ensures ∙ c.if-is_empty.true)))

pub returns-clause-some : goal.returns-clause-some
returns-clause-some c =
    let best = c.find_best.new.best.items in
    least_is c.decoding_law.ensures c.rows_law.ensures c.args.instr.now best c.find_best.ensures
    (λ none. false≢true (sym c.if-is_empty.false ∙ (c.is_empty.ensures ∙ eq-eqb (length best) 0 (ap length none))))
