use Rattle.std.proofs.Common.{◌≤◌, length, ap, subst, sym, ◌∙◌, arith}
use Rattle.asm_text.specs.ParsedTexts.{name_at}
use Rattle.asm_text.proofs.NameTests.{name_short, name_stands}
use Rattle.asm_text.proofs.OperationLemmas.{number_small}
use Rattle.asm_text.proofs.op_names.op_name.Goals as goal

pub name_at-requires : goal.name_at-requires
name_at-requires c = omega (arith, c.op_number.ensures.value, number_small c.args.op c.requires)

pub returns : goal.returns
returns c =
    let name = c.name_at.ensures ∙ (ap name_at c.op_number.ensures.value ∙ name_stands c.args.op c.requires) in
    record { name = name; short = subst (λ n. length n ≤ 7) (sym name) (name_short c.args.op c.requires) }
