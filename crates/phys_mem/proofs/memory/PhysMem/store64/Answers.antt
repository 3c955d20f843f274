use Rattle.std.proofs.Common.{◌≡◌, ◌∙◌, refl, sym, w64}
use Rattle.std.specs.Int.{to_le_bytes}
use Rattle.phys_mem.proofs.Patches.{with_run-patched}
use Rattle.phys_mem.proofs.Words.{stored-patched}
use Rattle.phys_mem.proofs.memory.PhysMem.store64.Goals as goal

pub returns-clause-stored : goal.returns-clause-stored
returns-clause-stored c =
    let m = c.args.self.now in let at = c.args.at in
    let same : c.copy_from_slice.new.self ≡ to_le_bytes w64 c.args.value = c.copy_from_slice.ensures.after ∙ c.to_le_bytes-bytes.ensures in
    with_run-patched _ m at at _ (to_le_bytes w64 c.args.value) c.self.view_is refl same c.requires ∙ sym (stored-patched m 8 at c.args.value c.requires)
