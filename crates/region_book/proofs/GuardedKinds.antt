-- Kinds of frames after some are guarded: each frame's, and those after the first of the frames and then the others; and
-- that two changes of descriptors alone are one.
use Rattle.std.proofs.Common.{◌≡◌, ℕ, ◌<◌, ◌/◌, Bool, true, false, ◌==◌, ◌||◌, List, [], ◌∷◌, length, set, arith, refl, sym, ap, ◌∙◌, inl, inr, slice_index_or}
use Rattle.std.specs.Prelude.{if◌then◌else◌}
use Rattle.std.specs.List.{list_any}
use Rattle.std.proofs.lemmas.Bool.Decides.{eqb_tells}
use Rattle.std.proofs.lemmas.List.{get_or-set_other, get_or-set_same, get_or_default, length-set, same_lists}
use Rattle.std.proofs.lemmas.List.FromFn.{get_or-map-range_with_len, length-map-range_with_len}
use Rattle.nk_bits.specs.declared.kind.Kind.{Kind}
use Rattle.nk_bits.specs.declared.kind.Kind.TheVariants.{Guarded, Hidden}
use Rattle.nk_bits.specs.Kinds.{kind_of}
use Rattle.page_desc.specs.DescriptorBytes.{DiffersInDescriptors}
use Rattle.region_book.specs.RegionCalls.{guarded}

abbrev among : ℕ → List ℕ → Bool
among f frames = list_any (λ g. g == f) frames

guarded_count : (kinds : List Kind) (frames : List ℕ) → length (guarded kinds frames) ≡ length kinds
unfolding guarded
guarded_count kinds frames =
    length-map-range_with_len (λ f. if among f frames then Guarded else kind_of kinds f) 0 (length kinds)

-- the kind of a frame, with any default
kind_there : (kinds : List Kind) (frames : List ℕ) (f : ℕ) (d : Kind) → f < length kinds →
    slice_index_or (guarded kinds frames) f d ≡ (if among f frames then Guarded else kind_of kinds f)
unfolding guarded
kind_there kinds frames f d below =
    get_or-map-range_with_len (λ f. if among f frames then Guarded else kind_of kinds f) 0 (length kinds) f f d below
    (omega arith)

pub guarded_none : (kinds : List Kind) → guarded kinds [] ≡ kinds
guarded_none kinds =
    same_lists (guarded kinds []) kinds (guarded_count kinds [])
    (λ f d below.
    let within : f < length kinds = omega (arith, below, guarded_count kinds []) in
    kind_there kinds [] f d within ∙ get_or_default kinds f Hidden d within)

pub guarded_more : (kinds : List Kind) (g : ℕ) (frames : List ℕ) →
    guarded kinds (g ∷ frames) ≡ guarded (set kinds g Guarded) frames
guarded_more kinds g frames =
    same_lists (guarded kinds (g ∷ frames)) (guarded (set kinds g Guarded) frames)
    (guarded_count kinds (g ∷ frames) ∙ sym (length-set kinds g Guarded) ∙ sym
    (guarded_count (set kinds g Guarded) frames))
    (λ f d below.
    let within : f < length kinds = omega (arith, below, guarded_count kinds (g ∷ frames)) in
    kind_there kinds (g ∷ frames) f d within ∙ here f within
    ∙ sym (kind_there (set kinds g Guarded) frames f d (omega (arith, within, length-set kinds g Guarded))))
  where
    both : (b : Bool) → Guarded ≡ (if b then Guarded else Guarded)
    both true = refl
    both false = refl

    here : (f : ℕ) → f < length kinds → (if (g == f) || among f frames then Guarded else kind_of kinds f)
        ≡ (if among f frames then Guarded else kind_of (set kinds g Guarded) f)
    here f within = elim (eqb_tells g f) [
      | inl same ↦
          ap (λ b. if b || among f frames then Guarded else kind_of kinds f) same.0 ∙ both (among f frames)
          ∙ ap (λ k. if among f frames then Guarded else k)
          (sym (ap (kind_of (set kinds g Guarded)) (sym same.1)
          ∙ get_or-set_same kinds g Guarded Hidden (omega (arith, within, same.1))))
      | inr apart ↦
          ap (λ b. if b || among f frames then Guarded else kind_of kinds f) apart.0
          ∙ ap (λ k. if among f frames then Guarded else k)
          (sym (get_or-set_other kinds g f Guarded Hidden (λ same. apart.1 (sym same))))
    ]

pub differs_twice : (m n o : List ℕ) → DiffersInDescriptors m n → DiffersInDescriptors n o → DiffersInDescriptors m o
differs_twice m n o first second = record {
  size = second.size ∙ first.size;
  elsewhere = λ p apart.
      second.elsewhere p (elim apart [
        | inl low ↦ inl low
        | inr high ↦ inr (omega (arith, high, ap (λ n. n / 4096) first.size))
      ])
      ∙ first.elsewhere p apart;
}
