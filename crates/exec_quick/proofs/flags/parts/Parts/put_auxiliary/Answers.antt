use Rattle.std.proofs.Common.{◌==◌, sym}
use Rattle.x86_alu.specs.SignedNumbers.{bit}
use Rattle.x86_alu.specs.Flags.{even_parity}
use Rattle.exec_quick.specs.StatusFlags.{flags_word}
use Rattle.exec_quick.proofs.FlagWords.{auxiliary_put}
use Rattle.exec_quick.proofs.flags.parts.Parts.put_auxiliary.Goals as goal

pub returns : goal.returns
unfolding flags_word
returns c =
    let it = c.args.self.now in
    sym (auxiliary_put c.flag_law.ensures it.rest it.carry (bit it.auxiliary 4) (bit it.overflow 63) (it.zero == 0) (bit it.sign 63) (even_parity it.parity) (bit c.args.word 4))
