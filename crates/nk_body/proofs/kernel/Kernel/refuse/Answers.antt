use Rattle.std.proofs.Common.{refl}
use Rattle.phys_mem.specs.MaskedMemory.{seen}
use Rattle.nk_bits.specs.declared.rule.Rule.TheVariants.{BadCall}
use Rattle.nk_body.specs.declared.call.Call.TheVariants.{NoCall}
use Rattle.nk_body.specs.NestedRecord.{books_in}
use Rattle.nk_body.proofs.CallsMade.{refused_made}
use Rattle.nk_body.proofs.kernel.Kernel.refuse.Goals as goal

pub returns-clause-made : goal.returns-clause-made
returns-clause-made c source =
    refused_made (books_in c.args.self.now c.args.mem.now) (seen c.args.mem.now) NoCall source BadCall c.requires.books.books refl
