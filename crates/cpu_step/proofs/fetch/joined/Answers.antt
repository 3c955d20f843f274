use Rattle.std.proofs.Common.{◌∷◌, [], refl}
use Rattle.cpu_step.proofs.LentPages.{joined_bytes}
use Rattle.cpu_step.proofs.fetch.joined.Goals as goal

pub returns : goal.returns
returns c =
    joined_bytes c.args.first.now c.args.second.now (0 ∷ (0 ∷ (0 ∷ (0 ∷ (0 ∷ (0 ∷ (0 ∷ (0 ∷ (0 ∷ (0 ∷ (0 ∷ (0 ∷ (0 ∷ (0 ∷ (0 ∷ [])))))))))))))))
    c.copy_from_slice.new.self c.copy_from_slice-2.new.self refl c.requires.first c.copy_from_slice.ensures.after c.copy_from_slice-2.ensures.after
