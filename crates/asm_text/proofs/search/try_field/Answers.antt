use Rattle.std.proofs.Common.{ap, sym, ◌∙◌}
use Rattle.asm_text.specs.Candidates.{best_of}
use Rattle.asm_text.proofs.ModRmSkips.{field_one, low_small}
use Rattle.asm_text.proofs.search.try_field.Goals as goal

pub returns-in-Some : goal.returns-in-Some
returns-in-Some c =
    let is = sym c.low_of.ensures ∙ c.in-Some.is in
    c.try_modrm.ensures
    ∙ ap (best_of c.args.instr.now c.args.best.now.items)
    (sym (field_one c.args.stem.now c.args.form.now c.args.tail.now c.in-Some.low c.args.field is
    (low_small c.args.form.now.place c.in-Some.low is)))
