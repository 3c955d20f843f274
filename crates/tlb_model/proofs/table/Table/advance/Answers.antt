use Rattle.std.proofs.Common.{◌≡◌, ℕ, ◌+◌, ◌&&◌, false, arith, ap}
use Rattle.std.specs.Prelude.{nat_lt}
use Rattle.std.proofs.lemmas.Bool.{ne_eqb}
use Rattle.tlb_model.specs.SlotBuckets.{is_kept, slot_at}
use Rattle.tlb_model.proofs.Empty.{no_pairs, table_none}
use Rattle.tlb_model.proofs.table.Table.advance.Goals as goal

none : (c : goal.After-clear) (at : ℕ) → is_kept (c.args.self.now.generation + 1) (slot_at c.args.self.now.slots at) ≡ false
none c at = ap (λ same. same && nat_lt (slot_at c.args.self.now.slots at).place 2048)
    (ne_eqb (slot_at c.args.self.now.slots at).generation (c.args.self.now.generation + 1) (λ e. omega (arith, e, c.requires.table.older at)))

pub returns-clause-table : goal.returns-clause-table
returns-clause-table c = table_none _ (none c) (λ at. omega (arith, c.requires.table.older at)) c.requires.table.room c.requires.table.fits c.requires.table.named c.requires.table.front c.clear.ensures.order c.clear.ensures.none

pub returns-clause-none : goal.returns-clause-none
returns-clause-none c = no_pairs (c.args.self.now.generation + 1) c.args.self.now.slots (none c) c.args.self.now.front c.args.self.now.ages.items
