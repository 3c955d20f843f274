-- Slots, chains and what is hidden at worked regions.
use Rattle.std.proofs.Common.{◌≡◌, ◌-◌, ◌^◌, ◌+◌, ℕ, true, false, List, [], ◌∷◌, ◌++◌, None, Some, refl, replicate}
use Rattle.proc_audit.specs.ProcessList.{hidden_at, is_chain_good, is_met, link_of, met_after, next_at, overwritten, pid_at, slot_count}

-- a number below 256 in eight bytes
abbrev pub eight : ℕ → List ℕ
eight n = n ∷ 0 ∷ 0 ∷ 0 ∷ 0 ∷ 0 ∷ 0 ∷ 0 ∷ []

-- as many slots as fit whole
slots_worked :
    (slot_count [] ≡ 0) ×
    (slot_count (replicate 15 0) ≡ 0) ×
    (slot_count (replicate 16 0) ≡ 1) ×
    (slot_count (replicate 31 0) ≡ 1) ×
    (slot_count (replicate 32 0) ≡ 2) ×
    (is_chain_good (replicate 15 0) ≡ true) ×
    (is_met (replicate 15 0) 0 ≡ false) ×
    (is_chain_good (replicate 31 0) ≡ true) ×
    (is_met (replicate 31 0) 0 ≡ true)
unfolding met_after is_chain_good is_met
slots_worked = (refl, refl, refl, refl, refl, refl, refl, refl, refl)

-- a next leads to the slot before its number, up to the last one
links_worked :
    (link_of 2 0 ≡ None) ×
    (link_of 2 1 ≡ Some 0) ×
    (link_of 2 2 ≡ Some 1) ×
    (link_of 2 3 ≡ None) ×
    (link_of 2 (2 ^ 32 + 1) ≡ None) ×
    (link_of 2 (2 ^ 64 - 1) ≡ None)
links_worked = (refl, refl, refl, refl, refl, refl)

-- slots 0, 1 and 2 with the processes 0, 1 and 7, each of which leads to the one behind it
abbrev pub whole : List ℕ
whole = eight 0 ++ eight 2 ++ eight 1 ++ eight 3 ++ eight 7 ++ eight 0

whole_worked :
    (slot_count whole ≡ 3) ×
    (pid_at whole 2 ≡ 7) ×
    (next_at whole 1 ≡ 3) ×
    (met_after whole 0 ≡ Some 0) ×
    (met_after whole 1 ≡ Some 1) ×
    (met_after whole 2 ≡ Some 2) ×
    (met_after whole 3 ≡ None) ×
    (is_chain_good whole ≡ true) ×
    (is_met whole 0 ≡ true) ×
    (is_met whole 1 ≡ true) ×
    (is_met whole 2 ≡ true) ×
    (is_met whole 3 ≡ false) ×
    (hidden_at whole 0 ≡ None) ×
    (hidden_at whole 1 ≡ None) ×
    (hidden_at whole 2 ≡ None)
unfolding met_after is_chain_good is_met
whole_worked = (refl, refl, refl, refl, refl, refl, refl, refl, refl, refl, refl, refl, refl, refl, refl)

-- then slot 1 becomes the last one
abbrev pub unlinked : List ℕ
unlinked = overwritten whole 24 (eight 0)

unlinked_worked :
    (unlinked ≡ eight 0 ++ eight 2 ++ eight 1 ++ eight 0 ++ eight 7 ++ eight 0) ×
    (met_after unlinked 1 ≡ Some 1) ×
    (met_after unlinked 2 ≡ None) ×
    (is_chain_good unlinked ≡ true) ×
    (is_met unlinked 1 ≡ true) ×
    (is_met unlinked 2 ≡ false) ×
    (hidden_at unlinked 0 ≡ None) ×
    (hidden_at unlinked 1 ≡ None) ×
    (hidden_at unlinked 2 ≡ Some 7)
unfolding met_after is_chain_good is_met
unlinked_worked = (refl, refl, refl, refl, refl, refl, refl, refl, refl)

-- and then slot 0 leads to itself
abbrev pub looped : List ℕ
looped = overwritten unlinked 8 (eight 1)

looped_worked :
    (looped ≡ eight 0 ++ eight 1 ++ eight 1 ++ eight 0 ++ eight 7 ++ eight 0) ×
    (met_after looped 1 ≡ Some 0) ×
    (is_chain_good looped ≡ false) ×
    (is_met looped 0 ≡ true) ×
    (is_met looped 1 ≡ false) ×
    (hidden_at looped 0 ≡ None) ×
    (hidden_at looped 1 ≡ Some 1) ×
    (hidden_at looped 2 ≡ Some 7)
unfolding met_after is_chain_good is_met
looped_worked = (refl, refl, refl, refl, refl, refl, refl, refl)

-- a next past the slots, of two of which the second holds process 5: one more than there are, all bits, and bits above
-- the lowest 32
abbrev past : List ℕ → List ℕ
past next = eight 0 ++ next ++ eight 5 ++ eight 0

past_worked :
    (is_chain_good (past (eight 2)) ≡ true) ×
    (hidden_at (past (eight 2)) 1 ≡ None) ×
    (is_chain_good (past (eight 3)) ≡ false) ×
    (hidden_at (past (eight 3)) 1 ≡ Some 5) ×
    (is_chain_good (past (replicate 8 255)) ≡ false) ×
    (hidden_at (past (replicate 8 255)) 1 ≡ Some 5) ×
    (is_chain_good (past (0 ∷ 0 ∷ 0 ∷ 0 ∷ 1 ∷ 0 ∷ 0 ∷ 0 ∷ [])) ≡ false) ×
    (is_chain_good (past (2 ∷ 0 ∷ 0 ∷ 0 ∷ 1 ∷ 0 ∷ 0 ∷ 0 ∷ [])) ≡ false) ×
    (hidden_at (past (2 ∷ 0 ∷ 0 ∷ 0 ∷ 1 ∷ 0 ∷ 0 ∷ 0 ∷ [])) 1 ≡ Some 5)
unfolding met_after is_chain_good is_met
past_worked = (refl, refl, refl, refl, refl, refl, refl, refl, refl)

-- bytes that are put over half of a next, and over the bytes behind the last whole slot
puts_worked :
    (overwritten (replicate 12 9) 2 (1 ∷ 2 ∷ []) ≡ 9 ∷ 9 ∷ 1 ∷ 2 ∷ replicate 8 9) ×
    (overwritten (replicate 2 9) 0 [] ≡ 9 ∷ 9 ∷ []) ×
    (overwritten (replicate 2 9) 2 [] ≡ 9 ∷ 9 ∷ []) ×
    (next_at (overwritten whole 4 (0 ∷ 0 ∷ 0 ∷ 0 ∷ 3 ∷ 0 ∷ 0 ∷ 0 ∷ [])) 0 ≡ 3) ×
    (hidden_at (overwritten whole 4 (0 ∷ 0 ∷ 0 ∷ 0 ∷ 3 ∷ 0 ∷ 0 ∷ 0 ∷ [])) 1 ≡ Some 1) ×
    (slot_count (overwritten (whole ++ eight 0) 48 (replicate 8 255)) ≡ 3) ×
    (is_chain_good (overwritten (whole ++ eight 0) 48 (replicate 8 255)) ≡ true)
unfolding met_after is_chain_good is_met
puts_worked = (refl, refl, refl, refl, refl, refl, refl)
