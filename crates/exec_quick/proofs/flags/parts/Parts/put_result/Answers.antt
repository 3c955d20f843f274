use Rattle.std.proofs.Common.{◌==◌, ap, sym, ◌∙◌}
use Rattle.x86_alu.specs.SignedNumbers.{bit}
use Rattle.x86_alu.specs.Flags.{even_parity}
use Rattle.exec_quick.specs.StatusFlags.{packed, flags_word}
use Rattle.exec_quick.proofs.FlagWords.{result_put}
use Rattle.exec_quick.proofs.flags.parts.Parts.put_result.Goals as goal

pub returns : goal.returns
unfolding flags_word
returns c =
    let it = c.args.self.now in
    ap (λ sign. packed it.rest it.carry (bit it.auxiliary 4) (bit it.overflow 63) (c.args.value == 0) sign (even_parity c.args.value)) c.raised-self.ensures
    ∙ sym (result_put c.flag_law.ensures it.rest it.carry (bit it.auxiliary 4) (bit it.overflow 63) (it.zero == 0) (bit it.sign 63) (even_parity it.parity) c.args.width c.args.value)
