-- What a put of a text leaves, built at concrete values.
use Rattle.std.proofs.Common.{◌≤◌, ◌-◌, ◌^◌, [], ◌∷◌, None, refl, arith}
use Rattle.nk_host.specs.TextPuts.{IsTextPut}
use Rattle.nk_host.proofs.RefutedPuts.{counted, told, took, went_well, went_wrong}

-- a whole text; the count stays, and may rise
whole : IsTextPut took counted (told (1 ∷ []) 5) (told (1 ∷ 7 ∷ 8 ∷ []) 5) (7 ∷ 8 ∷ []) went_well
whole = record { never_falls = omega arith; failed = tt; all = refl; some = tt }

counted_before : IsTextPut took counted (told [] 5) (told (7 ∷ []) 6) (7 ∷ []) went_well
counted_before = record { never_falls = omega arith; failed = tt; all = refl; some = tt }

-- a text that a fault cut behind its first byte, and one of which no byte was taken
cut : IsTextPut took counted (told (1 ∷ []) 5) (told (1 ∷ 7 ∷ []) 6) (7 ∷ 8 ∷ []) went_wrong
cut = record {
  never_falls = omega arith;
  failed = omega arith;
  all = tt;
  some = let short : 1 ≤ 2 = omega arith in (1, short, refl);
}

cut_at_once : IsTextPut took counted (told [] 5) (told [] 6) (7 ∷ []) went_wrong
cut_at_once = record {
  never_falls = omega arith;
  failed = omega arith;
  all = tt;
  some = let short : 0 ≤ 1 = omega arith in (0, short, refl);
}

-- a count at its type's end counts as risen, and a sink that tells nothing may take anything
untold : IsTextPut took counted (record { taken = None; faults = 2 ^ 64 - 1 }) (record { taken = None; faults = 2 ^ 64 - 1 })
    (7 ∷ []) went_wrong
untold = record {
  never_falls = omega arith;
  failed = omega arith;
  all = tt;
  some = let short : 0 ≤ 1 = omega arith in (0, short, tt);
}
