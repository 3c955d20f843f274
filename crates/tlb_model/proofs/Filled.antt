-- A fill step by step: the list without the page, cut where it is full, doesn't keep the page, and then gets its pair.
use Rattle.std.proofs.Common.{◌≡◌, ℕ, zero, suc, ◌+◌, ◌-◌, ◌≤◌, Bool, true, false, ◌==◌, [], ◌∷◌, ◌++◌, drop, length, refl, arith}
use Rattle.std.specs.Prelude.{Some, None, if◌then◌else◌}
use Rattle.nk_bits.specs.declared.leaf.Leaf.{Leaf}
use Rattle.nk_bits.specs.Translations.{Pairs, capacity, dropped, filled, look}
use Rattle.tlb_model.proofs.Youngest.{made}

pub look_drop : (n : ℕ) (pairs : Pairs) (page : ℕ) → look pairs page ≡ None → look (drop n pairs) page ≡ None
look_drop zero pairs page none = none
look_drop (suc n) [] page none = refl
look_drop (suc n) (pair ∷ pairs) page none = go (pair.0 == page) (look_drop n pairs page) none
  where
    go : (here : Bool) → (look pairs page ≡ None → look (drop n pairs) page ≡ None) → (if here then Some pair.1 else look pairs page) ≡ None →
        look (drop n pairs) page ≡ None
    go true later none = cc
    go false later none = later none

-- a list of at most as many as are kept, cut to leave room for one more
abbrev pub cut_to_fit : Pairs → Pairs
cut_to_fit pairs = drop (length pairs + 1 - capacity) pairs

pub filled_by : (pairs : Pairs) (page : ℕ) (leaf : Leaf) → length (dropped pairs page) ≤ capacity →
    cut_to_fit (dropped pairs page) ++ (page, leaf) ∷ [] ≡ filled pairs page leaf
unfolding filled capacity
filled_by pairs page leaf room = made capacity (dropped pairs page) (page, leaf) room (omega arith)
