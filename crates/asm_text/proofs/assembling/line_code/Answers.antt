use Rattle.std.proofs.lemmas.Option.{IfSome_then}
use Rattle.asm_text.proofs.LineCodes.{code_is, if_none_then, unread_none, unspelled_none}
use Rattle.asm_text.proofs.assembling.line_code.Goals as goal

pub returns-in-Some-clause-none : goal.returns-in-Some-clause-none
returns-in-Some-clause-none c =
    if_none_then c.encode_by.result c.encode_by.ensures.none
    (unspelled_none c.decoding_law.ensures c.text_law.ensures c.args.line.now c.in-Some.instr c.in-Some.ensures.some)

pub returns-in-Some-clause-some : goal.returns-in-Some-clause-some
returns-in-Some-clause-some c =
    IfSome_then c.encode_by.result c.encode_by.ensures.some
    (λ code least. code_is c.decoding_law.ensures c.text_law.ensures c.args.line.now code.items c.in-Some.instr c.in-Some.ensures.some least)

pub returns-in-None-clause-none : goal.returns-in-None-clause-none
returns-in-None-clause-none c =
    unread_none c.decoding_law.ensures c.text_law.ensures c.args.line.now c.in-None.ensures.none
