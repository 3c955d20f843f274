-- A chain that was followed, and what is kept of it.
use Rattle.std.specs.Prelude.{◌≡◌, ◌<◌, ◌^◌, ℕ, Bool, false, List, length, get_or}
use Rattle.proc_audit.specs.ProcessList.{is_chain_good, is_met, slot_count}

-- a mark for each slot says whether the chain meets it, and a flag whether it is good
pub record IsFollowed (b : List ℕ) (met : List Bool) (good : Bool) : Type 0 where
  pub count : length met ≡ slot_count b
  pub marks : (slot : ℕ) → slot < slot_count b → get_or met slot false ≡ is_met b slot
  pub flag : good ≡ is_chain_good b

-- the same, of a region whose size is a number of 32 bits
pub record IsAudited (b : List ℕ) (met : List Bool) (good : Bool) : Type 0 where
  pub followed : IsFollowed b met good
  pub small : length b < 2 ^ 32
