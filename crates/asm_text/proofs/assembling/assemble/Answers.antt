use Rattle.std.proofs.Common.{◌++◌, ap, length, sym, ◌∙◌, arith}
use Rattle.std.proofs.lemmas.Bool.{eqb-true}
use Rattle.asm_text.specs.AssembledText.{assembled_of}
use Rattle.asm_text.proofs.AssemblySteps.{bad_line, good_line, no_line}
use Rattle.asm_text.proofs.assembling.assemble.Goals as goal

pub returns-in_default-clause-fault : goal.returns-in_default-clause-fault
returns-in_default-clause-fault c =
    bad_line (assembled_of c.args.text.now) c.loop-rest.code.items c.loop-rest.number c.loop-rest.rest.now
    c.cut_line.result.0.now c.cut_line.result.1.now
    c.loop-rest.invariant.so_far c.cut_line.ensures.lines c.in_default.ensures.none

pub loop-rest-preserved : goal.loop-rest-preserved
loop-rest-preserved c = record {
  so_far = good_line (assembled_of c.args.text.now) c.loop-rest.code.items c.loop-rest.number c.loop-rest.rest.now
      c.cut_line.result.0.now c.cut_line.result.1.now c.in-Some.bytes.items c.put.new.code.items
      c.loop-rest.invariant.so_far c.cut_line.ensures.lines c.in-Some.ensures.some
      (c.put.ensures c.if-not-put.false ∙ ap (λ bytes. c.loop-rest.code.items ++ bytes) c.deref.ensures.0);
  few = omega (arith, c.cut_line.ensures.shorter, c.loop-rest.invariant.few);
}

pub returns-clause-code : goal.returns-clause-code
returns-clause-code c =
    no_line (assembled_of c.args.text.now) c.loop-rest.code.items c.loop-rest.number c.loop-rest.rest.now
    c.loop-rest.invariant.so_far
    (eqb-true (length c.loop-rest.rest.now) 0 (sym c.is_empty.ensures ∙ c.loop-rest-test.false))
