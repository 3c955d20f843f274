-- What a take leaves of a source, built at concrete values.
use Rattle.std.proofs.Common.{◌-◌, ◌^◌, [], ◌∷◌, None, refl, arith}
use Rattle.nk_host.specs.SourceTakes.{IsSourceTaken}
use Rattle.nk_host.proofs.RefutedPuts.{counted, told, took, went_wrong}
use Rattle.nk_host.proofs.RefutedTakes.{block, gave}

-- some bytes, of which others are left, and as many as the block has
some : IsSourceTaken took counted (told (7 ∷ 8 ∷ []) 5) (told (8 ∷ []) 5) block (7 ∷ 0 ∷ []) (gave 1)
some = record {
  never_falls = omega arith;
  failed = tt;
  kept = refl;
  size = refl;
  bound = omega arith;
  bytes = (refl, λ none room. absurd (omega (arith, none)));
}

-- none at the end, none for a block without room, and a fault that loses none
at_the_end : IsSourceTaken took counted (told [] 5) (told [] 5) block block (gave 0)
at_the_end = record {
  never_falls = omega arith;
  failed = tt;
  kept = refl;
  size = refl;
  bound = omega arith;
  bytes = (refl, λ none room. refl);
}

no_room : IsSourceTaken took counted (told (7 ∷ []) 5) (told (7 ∷ []) 5) [] [] (gave 0)
no_room = record {
  never_falls = omega arith;
  failed = tt;
  kept = refl;
  size = refl;
  bound = omega arith;
  bytes = (refl, λ none room. absurd (omega (arith, room)));
}

at_a_fault : IsSourceTaken took counted (told (7 ∷ []) 5) (told (7 ∷ []) 6) block (1 ∷ 2 ∷ []) went_wrong
at_a_fault = record {
  never_falls = omega arith;
  failed = omega arith;
  kept = tt;
  size = refl;
  bound = tt;
  bytes = refl;
}

-- a source that tells nothing may give anything
untold : IsSourceTaken took counted (record { taken = None; faults = 2 ^ 64 - 1 })
    (record { taken = None; faults = 2 ^ 64 - 1 }) block (9 ∷ 9 ∷ []) (gave 2)
untold = record {
  never_falls = omega arith;
  failed = tt;
  kept = refl;
  size = refl;
  bound = omega arith;
  bytes = (tt, λ none room. tt);
}
