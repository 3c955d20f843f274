use Rattle.std.proofs.Common.{arith, ◌≡◌, true, take, sym, subst, ◌∙◌}
use Rattle.x86_decode.specs.declared.instruction.Decoded.{Decoded}
use Rattle.x86_decode.specs.Conditions.{is_protected}
use Rattle.x86_decode.specs.Decoding.{BeginsProtected, Decodes}
use Rattle.x86_decode.specs.Reader.{decoded_of}
use Rattle.x86_decode.specs.Spelling.{AreBytes}
use Rattle.x86_decode.specs.WellFormed.{IsWellFormed}
use Rattle.x86_decode.proofs.Answers.{of_front}
use Rattle.x86_decode.proofs.Bytes.{slice_are}
use Rattle.x86_decode.proofs.reader.decode.Goals as goal

pub returns-clause-right : goal.returns-clause-right
returns-clause-right c =
    let are : AreBytes c.args.bytes.now = slice_are c.args.bytes.now (λ k. omega (arith, c.type_inv.bytes k)) in
    let is : c.read.result ≡ decoded_of c.args.bytes.now = c.read.ensures in
    subst (λ (d : Decoded). Decodes c.args.bytes.now d) (sym is) (c.decoding_law.ensures.right c.args.bytes.now are c.requires)

pub returns-clause-only : goal.returns-clause-only
returns-clause-only c = λ other right.
    let are : AreBytes c.args.bytes.now = slice_are c.args.bytes.now (λ k. omega (arith, c.type_inv.bytes k)) in
    let is : c.read.result ≡ decoded_of c.args.bytes.now = c.read.ensures in
    c.decoding_law.ensures.only c.args.bytes.now other are c.requires right ∙ sym is

pub returns-clause-formed : goal.returns-clause-formed
returns-clause-formed c =
    let are : AreBytes c.args.bytes.now = slice_are c.args.bytes.now (λ k. omega (arith, c.type_inv.bytes k)) in
    let is : c.read.result ≡ decoded_of c.args.bytes.now = c.read.ensures in
    let right : Decodes c.args.bytes.now c.read.result = subst (λ (d : Decoded). Decodes c.args.bytes.now d) (sym is) (c.decoding_law.ensures.right c.args.bytes.now are c.requires) in
    of_front (λ instr size. IsWellFormed instr) c.args.bytes.now c.read.result right
    (λ instr size f. c.spelling_law.ensures.formed instr (take size c.args.bytes.now) f.lawful.spells)

pub returns-clause-law : goal.returns-clause-law
returns-clause-law c =
    let are : AreBytes c.args.bytes.now = slice_are c.args.bytes.now (λ k. omega (arith, c.type_inv.bytes k)) in
    let is : c.read.result ≡ decoded_of c.args.bytes.now = c.read.ensures in
    let right : Decodes c.args.bytes.now c.read.result = subst (λ (d : Decoded). Decodes c.args.bytes.now d) (sym is) (c.decoding_law.ensures.right c.args.bytes.now are c.requires) in
    of_front (λ instr size. is_protected instr.op ≡ true → BeginsProtected (take size c.args.bytes.now)) c.args.bytes.now c.read.result right
    (λ instr size f protected. c.spelling_law.ensures.protected instr (take size c.args.bytes.now) f.lawful.spells protected)
