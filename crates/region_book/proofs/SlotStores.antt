-- Numbers that are stored one behind another: each is found again, and no other byte changes.
use Rattle.std.proofs.Common.{◌≡◌, ◌≢◌, ◌⊎◌, ℕ, zero, suc, ◌+◌, ◌*◌, ◌^◌, ◌<◌, ◌≤◌, List, [], ◌∷◌, length, arith, refl, ap, ◌∙◌, inl, inr}
use Rattle.std.specs.Prelude.{⊤}
use Rattle.std.proofs.lemmas.Bool.{cases_eq, cases_lt}
use Rattle.std.proofs.lemmas.List.Elements.{All-weaker}
use Rattle.std.proofs.Math.Nat.{mod-eq_of_lt}
use Rattle.phys_mem.specs.Memory.{byte_at, number_at, stored, stores}
use Rattle.phys_mem.specs.MemoryLaws.{MemoryLaws}
use Rattle.region_book.specs.SlotChanges.{DiffersWithin, Holds}
use Rattle.region_book.proofs.SlotRows.{number_same}

-- changes within bounds, behind one another
pub differs_none : (from to : ℕ) (m : List ℕ) → DiffersWithin from to m m
differs_none from to m = record { size = refl; elsewhere = λ p apart. refl }

pub differs_more : (from to : ℕ) (a b c : List ℕ) → DiffersWithin from to a b → DiffersWithin from to b c
    → DiffersWithin from to a c
differs_more from to a b c first second = record {
  size = second.size ∙ first.size;
  elsewhere = λ p apart. second.elsewhere p apart ∙ first.elsewhere p apart;
}

pub differs_wider : (from to low high : ℕ) (a b : List ℕ) → low ≤ from → to ≤ high → DiffersWithin from to a b
    → DiffersWithin low high a b
differs_wider from to low high a b below above differs = record {
  size = differs.size;
  elsewhere = λ p apart. differs.elsewhere p (elim apart [
    | inl before ↦ inl (omega (arith, before, below))
    | inr behind ↦ inr (omega (arith, behind, above))
  ]);
}

-- a number outside of the bounds stays
pub number_beside : (from to : ℕ) (a b : List ℕ) (k p : ℕ) → (p + k ≤ from) ⊎ (to ≤ p) → DiffersWithin from to a b
    → number_at b k p ≡ number_at a k p
number_beside from to a b k p apart differs =
    number_same a b k p (λ q low high. differs.elsewhere q (elim apart [
      | inl before ↦ inl (omega (arith, before, high))
      | inr behind ↦ inr (omega (arith, behind, low))
    ]))

-- one number
pub one_differs : MemoryLaws → (m : List ℕ) (k p v : ℕ) → DiffersWithin p (p + k) m (stored m (stores k p v))
one_differs laws m k p v = record {
  size = laws.length m (stores k p v);
  elsewhere = λ q apart. laws.byte_elsewhere m (stores k p v) q
      (All-weaker (λ (w : ℕ × ℕ). (p ≤ w.0) × (w.0 < p + k)) (λ (w : ℕ × ℕ). w.0 ≢ q)
      (λ w within same. elim apart [
        | inl before ↦ omega (arith, before, within.0, same)
        | inr behind ↦ omega (arith, behind, within.1, same)
      ])
      (stores k p v) (laws.places k p v));
}

-- bytes whose number is 0
pub bytes_of_none : (m : List ℕ) (k p q : ℕ) → number_at m k p ≡ 0 → p ≤ q → q < p + k → byte_at m q ≡ 0
unfolding number_at
bytes_of_none m zero p q none low high = absurd (omega (arith, low, high))
bytes_of_none m (suc k) p q none low high =
    let rest : number_at m k (p + 1) ≡ 0 = omega (arith, none) in
    let here : byte_at m p ≡ 0 = omega (arith, none) in
    elim (cases_eq q p) [
      | inl is ↦ ap (byte_at m) is ∙ here
      | inr apart ↦ bytes_of_none m k (p + 1) q rest (omega (arith, low, apart)) (omega (arith, high))
    ]

-- several
abbrev pub laid : List ℕ → List (ℕ × ℕ × ℕ) → List ℕ
laid m [] = m
laid m (f ∷ fs) = laid (stored m (stores f.1 f.0 f.2)) fs

-- they stand one behind another between two places
abbrev pub AreBetween : ℕ → ℕ → List (ℕ × ℕ × ℕ) → Type 0
AreBetween a b [] = a ≤ b
AreBetween a b (f ∷ fs) = (a ≤ f.0) × AreBetween (f.0 + f.1) b fs

-- and have room for their values
abbrev pub HaveRoom : List (ℕ × ℕ × ℕ) → Type 0
HaveRoom [] = ⊤
HaveRoom (f ∷ fs) = (f.2 < 256 ^ f.1) × HaveRoom fs

bounds_ordered : (a b : ℕ) (fs : List (ℕ × ℕ × ℕ)) → AreBetween a b fs → a ≤ b
bounds_ordered a b [] between = between
bounds_ordered a b (f ∷ fs) between = omega (arith, between.0, bounds_ordered (f.0 + f.1) b fs between.1)

module _ (laws : MemoryLaws) where
  pub laid_differs : (m : List ℕ) (a b : ℕ) (fs : List (ℕ × ℕ × ℕ)) → AreBetween a b fs → DiffersWithin a b m (laid m fs)
  laid_differs m a b [] between = differs_none a b m
  laid_differs m a b (f ∷ fs) between =
      let next = stored m (stores f.1 f.0 f.2) in
      differs_more a b m next (laid next fs)
      (differs_wider f.0 (f.0 + f.1) a b m next between.0 (bounds_ordered (f.0 + f.1) b fs between.1) (one_differs laws m f.1 f.0 f.2))
      (differs_wider (f.0 + f.1) b a b next (laid next fs) (omega (arith, between.0)) (omega arith)
      (laid_differs next (f.0 + f.1) b fs between.1))

  pub laid_holds : (m : List ℕ) (a b : ℕ) (fs : List (ℕ × ℕ × ℕ)) → AreBetween a b fs → HaveRoom fs → b ≤ length m
      → Holds (laid m fs) fs
  laid_holds m a b [] between small inside = tt
  laid_holds m a b (f ∷ fs) between small inside =
      let next = stored m (stores f.1 f.0 f.2) in
      let room : f.0 + f.1 ≤ length m = omega (arith, inside, bounds_ordered (f.0 + f.1) b fs between.1) in (
        number_beside (f.0 + f.1) b next (laid next fs) f.1 f.0 (inl (omega arith)) (laid_differs next (f.0 + f.1) b fs between.1)
            ∙ laws.number_stored m f.1 f.0 f.2 room ∙ mod-eq_of_lt small.0,
        laid_holds next (f.0 + f.1) b fs between.1 small.1 (omega (arith, inside, laws.length m (stores f.1 f.0 f.2))),
      )

  -- one more eight bytes are 0
  pub zero_more : (place i : ℕ) (m : List ℕ) → place + 8 * i + 8 ≤ length m
      → ((p : ℕ) → p < 8 * i → byte_at m (place + p) ≡ 0) → (p : ℕ) → p < 8 * (i + 1)
      → byte_at (stored m (stores 8 (place + 8 * i) 0)) (place + p) ≡ 0
  zero_more place i m inside none p below =
      elim (cases_lt p (8 * i)) [
        | inl low ↦
            (one_differs laws m 8 (place + 8 * i) 0).elsewhere (place + p) (inl (omega (arith, low))) ∙ none p low
        | inr high ↦
            bytes_of_none (stored m (stores 8 (place + 8 * i) 0)) 8 (place + 8 * i) (place + p)
            (omega (arith, laws.number_stored m 8 (place + 8 * i) 0 inside)) (omega (arith, high)) (omega (arith, below))
      ]

-- they are found in a memory with the same bytes between the places
pub holds_stays : (m n : List ℕ) (a b : ℕ) (fs : List (ℕ × ℕ × ℕ)) → AreBetween a b fs
    → ((p : ℕ) → a ≤ p → p < b → byte_at n p ≡ byte_at m p) → Holds m fs → Holds n fs
holds_stays m n a b [] between same holds = tt
holds_stays m n a b (f ∷ fs) between same holds = (
  number_same m n f.1 f.0 (λ q low high. same q (omega (arith, low, between.0))
      (omega (arith, high, bounds_ordered (f.0 + f.1) b fs between.1))) ∙ holds.0,
  holds_stays m n (f.0 + f.1) b fs between.1 (λ p low high. same p (omega (arith, low, between.0)) high) holds.1,
)
