-- A list of processes in the bytes of a region: a row of slots of sixteen bytes, as many as fit whole. Each holds a
-- process and where the list goes on. The list is followed from slot 0; a process that it doesn't come to is hidden.
use Rattle.std.specs.Prelude.{ℕ, zero, suc, ◌+◌, ◌*◌, ◌/◌, ◌==◌, Bool, false, not, ◌&&◌, ◌||◌, nat_lt, if◌then◌else◌, List, length, take, drop, ◌++◌, Option, None, Some}
use Rattle.std.specs.List.{list_any, range_with_len}
use Rattle.std.specs.Option.{option_map_or}
use Rattle.byteorder.specs.Endian.{little_number}

abbrev pub slot_count : List ℕ → ℕ
slot_count b = length b / 16

-- a slot's process identifier, and its next: eight bytes each, least significant first
abbrev pub pid_at : List ℕ → ℕ → ℕ
pid_at b slot = little_number 8 (drop (16 * slot) b)

abbrev pub next_at : List ℕ → ℕ → ℕ
next_at b slot = little_number 8 (drop (16 * slot + 8) b)

-- a next leads to the slot of its number less one; 0, and a number past the count of slots, lead to none
abbrev pub link_of : ℕ → ℕ → Option ℕ
link_of count zero = None
link_of count (suc slot) = if nat_lt slot count then Some slot else None

-- where the chain goes on from a slot
abbrev pub linked : List ℕ → Option ℕ → Option ℕ
linked b None = None
linked b (Some slot) = link_of (slot_count b) (next_at b slot)

-- the slot that the chain meets after so many links from slot 0
unfoldable pub met_after : List ℕ → ℕ → Option ℕ
met_after b zero = if nat_lt 0 (slot_count b) then Some 0 else None
met_after b (suc n) = linked b (met_after b n)

-- the slot is in the chain. A slot that is met again leads where it led before, so whatever is met at all is met within
-- fewer links than there are slots
unfoldable pub is_met : List ℕ → ℕ → Bool
is_met b slot = list_any (λ n. option_map_or (λ s. s == slot) (met_after b n) false) (range_with_len 0 (slot_count b))

-- the chain is good: there is no slot, or it comes to a next of 0. It is broken by any other next that leads to no slot,
-- and by a slot that is met again
unfoldable pub is_chain_good : List ℕ → Bool
is_chain_good b =
    slot_count b == 0
    || list_any (λ n. option_map_or (λ s. next_at b s == 0) (met_after b n) false) (range_with_len 0 (slot_count b))

-- the process that a slot hides: from slot 1 on, an identifier that isn't 0 in a slot that isn't in the chain
abbrev pub hidden_at : List ℕ → ℕ → Option ℕ
hidden_at b slot =
    if nat_lt 0 slot && not (pid_at b slot == 0) && not (is_met b slot) then Some (pid_at b slot) else None

-- the bytes after others were put over them, from an offset on
abbrev pub overwritten : List ℕ → ℕ → List ℕ → List ℕ
overwritten b offset put = take offset b ++ put ++ drop (offset + length put) b
