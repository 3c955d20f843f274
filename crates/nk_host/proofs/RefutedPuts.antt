-- What no put of a text leaves, at concrete values.
use Rattle.std.proofs.Common.{◌≡◌, ℕ, ◌≤◌, List, [], ◌∷◌, length, slice_index, take, Option, None, Some, Result, Ok, Err, ap, ◌∙◌, sym, arith, length-take-le}
use Rattle.nk_host.specs.TextPuts.{IsTextPut}

-- a sink's value here: the bytes that it took, where it tells them, and its count of faults
pub record Held : Type 0 where
  pub taken : Option (List ℕ)
  pub faults : ℕ

abbrev pub took : Held → Option (List ℕ)
took held = held.taken

abbrev pub counted : Held → ℕ
counted held = held.faults

abbrev pub told : List ℕ → ℕ → Held
told taken faults = record { taken = Some taken; faults = faults }

-- what a put answers
abbrev pub went_well : Result ℕ ℕ
went_well = Ok 0

abbrev pub went_wrong : Result ℕ ℕ
went_wrong = Err 0

-- a count that fell, by a whole put and by a cut one
fell : IsTextPut took counted (told [] 5) (told (7 ∷ []) 4) (7 ∷ []) went_well → ⊥
fell it = let stands : 5 ≤ 4 = it.never_falls in omega (arith, stands)

fell_cut : IsTextPut took counted (told [] 5) (told [] 4) (7 ∷ []) went_wrong → ⊥
fell_cut it = let stands : 5 ≤ 4 = it.never_falls in omega (arith, stands)

-- a fault that isn't counted
uncounted : IsTextPut took counted (told [] 5) (told [] 5) (7 ∷ []) went_wrong → ⊥
uncounted it = let rose : 6 ≤ 5 = it.failed in omega (arith, rose)

-- a whole put that leaves the last byte out, and one whose bytes are then not told
left_out : IsTextPut took counted (told [] 5) (told (7 ∷ []) 5) (7 ∷ 8 ∷ []) went_well → ⊥
left_out it =
    let whole : 7 ∷ [] ≡ 7 ∷ 8 ∷ [] = it.all in
    let count : 1 ≡ 2 = ap length whole in omega (arith, count)

no_more_told : IsTextPut took counted (told [] 5) (record { taken = None; faults = 5 }) (7 ∷ []) went_well → ⊥
no_more_told it = it.all

-- a cut put that leaves more than the text, and one that leaves another byte
more_taken : IsTextPut took counted (told [] 5) (told (7 ∷ 7 ∷ []) 6) (7 ∷ []) went_wrong → ⊥
more_taken it =
    let (n, short, appended) = it.some in
    let few : n ≤ 1 = short in
    let same : 7 ∷ 7 ∷ [] ≡ take n (7 ∷ []) = appended in
    let count : 2 ≡ n = ap length same ∙ length-take-le n (7 ∷ []) few in omega (arith, few, count)

another_byte : IsTextPut took counted (told [] 5) (told (9 ∷ []) 6) (7 ∷ []) went_wrong → ⊥
another_byte it =
    let (n, short, appended) = it.some in
    let few : n ≤ 1 = short in
    let same : 9 ∷ [] ≡ take n (7 ∷ []) = appended in
    let count : 1 ≡ n = ap length same ∙ length-take-le n (7 ∷ []) few in
    let first : 9 ≡ 7 = ap (λ l. slice_index l 0) (same ∙ ap (λ k. take k (7 ∷ [])) (sym count)) in omega (arith, first)
