use Rattle.std.proofs.Common.{subst, take}
use Rattle.x86_decode.specs.Decoding.{Decodes}
use Rattle.report_text.proofs.code_listing.put_found.Goals as goal

pub print-text-requires : goal.print-text-requires
print-text-requires g c =
    let front = subst (Decodes c.args.bytes.now) c.in-Whole.is c.requires.right in
    c.text_law.ensures.spelled c.in-Whole.instr (take c.in-Whole.size c.args.bytes.now) front.lawful.spells
