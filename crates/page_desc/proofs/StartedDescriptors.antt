-- What memory holds where descriptors were put into frames of 0: kinds and counts, and what lies beside them.
use Rattle.std.proofs.Common.{◌≡◌, ℕ, zero, suc, ◌+◌, ◌*◌, ◌/◌, ◌<◌, ◌≤◌, true, List, length, arith, refl, sym, ap, ◌∙◌, inl, inr}
use Rattle.std.proofs.lemmas.Bool.{and_from, le-leb, lt-ltb}
use Rattle.std.proofs.lemmas.List.{ext_get_or}
use Rattle.std.proofs.lemmas.List.FromFn.{get_or-map-range_with_len, length-map-range_with_len}
use Rattle.phys_mem.specs.MaskedMemory.{is_book_frame}
use Rattle.phys_mem.specs.Memory.{byte_at, number_at}
use Rattle.nk_bits.specs.declared.kind.Kind.{Kind}
use Rattle.nk_bits.specs.declared.kind.Kind.TheVariants.{Hidden}
use Rattle.nk_bits.specs.Kinds.{kind_of}
use Rattle.page_desc.specs.DescriptorBytes.{DiffersInDescriptors, HoldsDescriptors, descriptors_in, field_in, kind_by, word_of}
use Rattle.page_desc.specs.FieldChanges.{DiffersInField}
use Rattle.page_desc.specs.FrameCounts.{links_in, loose_in}
use Rattle.page_desc.specs.FrameDescriptors.{AreCounted}

-- bytes of 0 spell 0
number_none : (k : ℕ) (m : List ℕ) (p : ℕ) → ((q : ℕ) → p ≤ q → q < p + k → byte_at m q ≡ 0) → number_at m k p ≡ 0
unfolding number_at
number_none zero m p none = refl
number_none (suc k) m p none =
    let first : byte_at m p ≡ 0 = none p (omega arith) (omega arith) in
    let rest : number_at m k (p + 1) ≡ 0 =
    number_none k m (p + 1) (λ q low high. none q (omega (arith, low)) (omega (arith, high))) in
    omega (arith, first, rest)

-- the frames of descriptors are books
pub descriptor_book : (frames q : ℕ) → 0x40000 ≤ q → q < 0x40000 + 16 * frames → is_book_frame frames (q / 4096) ≡ true
unfolding is_book_frame
descriptor_book frames q low high =
    and_from _ _ (le-leb 26 (q / 4096) (omega (arith, low))) (lt-ltb (q / 4096) (64 + (frames + 255) / 256) (omega (arith, low, high)))

pub field_none : (frames : ℕ) (m : List ℕ) (at f : ℕ)
    → ((p : ℕ) → 0x40000 ≤ p → is_book_frame frames (p / 4096) ≡ true → byte_at m p ≡ 0) → at ≤ 12 → f < frames
    → field_in m at f ≡ 0
unfolding field_in
field_none frames m at f none inside within =
    number_none 4 m (0x40000 + 16 * f + at) (λ q low high.
    none q (omega (arith, low)) (descriptor_book frames q (omega (arith, low)) (omega (arith, high, inside, within))))

module _ (kinds : List Kind) (n : List ℕ) (size : length n ≡ 4096 * length kinds) where
  frames_are : length n / 4096 ≡ length kinds
  frames_are = omega (arith, size)

  module _ (put : (f : ℕ) → f < length kinds → kind_by (field_in n 0 f) ≡ kind_of kinds f) where
    pub kinds_put : (descriptors_in n).kinds ≡ kinds
    unfolding descriptors_in
    kinds_put =
        ext_get_or Hidden (descriptors_in n).kinds kinds
        (length-map-range_with_len (λ f. kind_by (field_in n 0 f)) 0 (length n / 4096) ∙ frames_are)
        (λ f inside.
        let within : f < length kinds =
        omega (arith, inside, length-map-range_with_len (λ g. kind_by (field_in n 0 g)) 0 (length n / 4096), frames_are) in
        get_or-map-range_with_len (λ g. kind_by (field_in n 0 g)) 0 (length n / 4096) f f Hidden (omega (arith, within, frames_are)) (omega arith)
        ∙ put f within)

    pub counted_put : (t : ℕ → ℕ → ℕ) → ((f : ℕ) → f < length kinds → field_in n 4 f ≡ loose_in kinds t f)
        → ((f : ℕ) → f < length kinds → field_in n 8 f ≡ links_in kinds t f) → AreCounted (descriptors_in n) t
    unfolding descriptors_in
    counted_put t loose links = record {
      loose = λ f inside.
          let within : f < length kinds = omega (arith, inside, ap length kinds_put) in
          get_or-map-range_with_len (field_in n 4) 0 (length n / 4096) f f 0 (omega (arith, within, frames_are)) (omega arith)
          ∙ loose f within ∙ ap (λ ks. loose_in ks t f) (sym kinds_put);
      links = λ f inside.
          let within : f < length kinds = omega (arith, inside, ap length kinds_put) in
          get_or-map-range_with_len (field_in n 8) 0 (length n / 4096) f f 0 (omega (arith, within, frames_are)) (omega arith)
          ∙ links f within ∙ ap (λ ks. links_in ks t f) (sym kinds_put);
    }

-- the form of the descriptors, put into frames of 0
pub held_put : (kinds : List Kind) (m n : List ℕ) → 65 ≤ length kinds → length m ≡ 4096 * length kinds
    → DiffersInDescriptors m n
    → ((p : ℕ) → 0x40000 ≤ p → is_book_frame (length kinds) (p / 4096) ≡ true → byte_at m p ≡ 0)
    → ((f : ℕ) → f < length kinds → field_in n 0 f ≡ word_of (kind_of kinds f))
    → ((f : ℕ) → f < length kinds → kind_by (field_in n 0 f) ≡ kind_of kinds f)
    → ((f : ℕ) → f < length kinds → field_in n 12 f ≡ field_in m 12 f) → HoldsDescriptors (length kinds) n
held_put kinds m n least size differs none words stand unused = record {
  least = least;
  size = differs.size ∙ size;
  kinds = λ f inside. words f inside ∙ ap word_of (sym (stand f inside));
  unused = λ f inside. unused f inside ∙ field_none (length kinds) m 12 f none (omega arith) inside;
  behind = λ p past book.
      differs.elsewhere p (inr (omega (arith, past, size))) ∙ none p (omega (arith, past)) book;
}

-- a pass over one number behind one over other numbers changes descriptors alone
pub differs_then : (frames at : ℕ) (m n o : List ℕ) → length m ≡ 4096 * frames → DiffersInField frames at m n
    → DiffersInDescriptors n o → DiffersInDescriptors m o
differs_then frames at m n o size first second = record {
  size = second.size ∙ first.size;
  elsewhere = λ p apart.
      second.elsewhere p (elim apart [
        | inl low ↦ inl low
        | inr high ↦ inr (omega (arith, high, first.size))
      ])
      ∙ first.elsewhere p (elim apart [
        | inl low ↦ inl low
        | inr high ↦ inr (omega (arith, high, size))
      ]);
}
