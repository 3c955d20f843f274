-- All slots in an order in which those that are taken stand first.
use Rattle.std.specs.Prelude.{◌≡◌, ◌<◌, ◌≤◌, ℕ, Bool, nat_lt, slice_index}
use Rattle.tlb_model.specs.declared.order.Order.{Order}

-- the slots of the order are each once at the number that is noted of them
pub record IsOrder (it : Order) : Type 0 where
  pub most : it.count ≤ 1024
  pub slot : (number : ℕ) → number < 1024 → slice_index it.slots number < 1024
  pub number : (at : ℕ) → at < 1024 → slice_index it.numbers at < 1024
  pub numbered : (number : ℕ) → number < 1024 → slice_index it.numbers (slice_index it.slots number) ≡ number
  pub ordered : (at : ℕ) → at < 1024 → slice_index it.slots (slice_index it.numbers at) ≡ at

-- the slot is among the first so many
abbrev pub is_slot_used : Order → ℕ → Bool
is_slot_used it at = nat_lt (slice_index it.numbers at) it.count
