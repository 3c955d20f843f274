-- Statements on lists of processes that aren't so.
use Rattle.std.proofs.Common.{◌≡◌, ◌-◌, ◌<◌, ℕ, true, false, List, ◌++◌, None, Some, arith, refl, sym, replicate, length}
use Rattle.proc_audit.specs.ProcessList.{hidden_at, is_chain_good, is_met, link_of, met_after, overwritten, pid_at, slot_count}
use Rattle.proc_audit.proofs.ChainLinks.{ends, meets}
use Rattle.proc_audit.proofs.NumberTests.{any_below}
use Rattle.proc_audit.proofs.WorkedProcesses.{eight, looped, unlinked, whole}

no_some : (x : ℕ) → Some x ≡ None → ⊥
no_some x e = cc

some_same : (x y : ℕ) → Some x ≡ Some y → x ≡ y
some_same x y e = cc

no_more : (x y : ℕ) → x < y → y ≡ x → ⊥
no_more x y less e = omega arith

-- a next is the number of the slot that it leads to
by_number : ((count next : ℕ) → next < count → link_of count next ≡ Some next) → ⊥
by_number every = no_more 0 1 (omega arith) (sym (some_same 0 1 (every 3 1 (omega arith))))

-- a next of as many as there are slots leads to none
by_count : ((count : ℕ) → link_of count count ≡ None) → ⊥
by_count every = no_some 2 (every 3)

-- a chain that is good meets every slot
good_meets_all : ((b : List ℕ) (slot : ℕ) → is_chain_good b ≡ true → slot < slot_count b → is_met b slot ≡ true) → ⊥
unfolding met_after is_chain_good is_met
good_meets_all every = let e : false ≡ true = every unlinked 2 refl (omega arith) in cc

-- a chain that is broken meets no slot, and one that meets a slot is good
broken_meets_none : ((b : List ℕ) (slot : ℕ) → is_chain_good b ≡ false → is_met b slot ≡ false) → ⊥
unfolding met_after is_chain_good is_met
broken_meets_none every = let e : true ≡ false = every looped 0 refl in cc

-- one link fewer would do: the chain of three slots would lack its last slot and its end
meets_by_fewer : ((b : List ℕ) (slot : ℕ) → any_below (meets b slot) (slot_count b - 1) ≡ is_met b slot) → ⊥
unfolding met_after is_met
meets_by_fewer every = let e : false ≡ true = every whole 2 in cc

good_by_fewer : ((b : List ℕ) → 0 < slot_count b → any_below (ends b) (slot_count b - 1) ≡ is_chain_good b) → ⊥
unfolding met_after is_chain_good
good_by_fewer every = let e : false ≡ true = every whole (omega arith) in cc

-- a process that is in the chain is hidden nowhere: slots are what is met, and not identifiers
abbrev twice : List ℕ
twice = eight 0 ++ eight 2 ++ eight 7 ++ eight 0 ++ eight 7 ++ eight 0

hidden_once : ((b : List ℕ) (slot other : ℕ) → is_met b slot ≡ true → other < slot_count b → pid_at b other ≡ pid_at b slot
    → hidden_at b other ≡ None) → ⊥
unfolding met_after is_met
hidden_once every = no_some 7 (every twice 1 2 refl (omega arith) refl)

-- bytes that are put past the end leave the length: whoever puts them sees that they fit
length_stays : ((b put : List ℕ) (offset : ℕ) → length (overwritten b offset put) ≡ length b) → ⊥
length_stays every = no_more 16 20 (omega arith) (every (replicate 16 0) (eight 1) 12)
