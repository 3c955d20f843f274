-- Descriptors in memories that agree where they stand, and what of a change of them is seen.
use Rattle.std.proofs.Common.{◌≡◌, ◌⊎◌, ℕ, zero, suc, ◌+◌, ◌*◌, ◌/◌, ◌<◌, ◌≤◌, Bool, true, false, List, length, arith, refl, ap, ◌∙◌, inl, inr}
use Rattle.std.specs.Prelude.{nat_le, nat_lt}
use Rattle.std.proofs.lemmas.Bool.{and_cases, and_from, le-leb, leb-false, lt-ltb, ltb-false}
use Rattle.phys_mem.specs.MaskedMemory.{is_book_frame, masked, seen}
use Rattle.phys_mem.specs.Memory.{byte_at, number_at}
use Rattle.page_desc.specs.DescriptorBytes.{DiffersInDescriptors, HoldsDescriptors, descriptors_in, field_in}
use Rattle.page_desc.proofs.DescriptorValues.{frames_in, held_stays, kinds_alike, links_alike, loose_alike}

-- memories whose bytes agree at n places spell one number there
number_same : (l m : List ℕ) (n p : ℕ) → ((q : ℕ) → p ≤ q → q < p + n → byte_at l q ≡ byte_at m q)
    → number_at l n p ≡ number_at m n p
unfolding number_at
number_same l m zero p agree = refl
number_same l m (suc n) p agree =
    let first : byte_at l p ≡ byte_at m p = agree p (omega arith) (omega arith) in
    let rest : number_at l n (p + 1) ≡ number_at m n (p + 1) =
    number_same l m n (p + 1) (λ q low high. agree q (omega (arith, low)) (omega (arith, high))) in
    omega (arith, first, rest)

-- the books' frames
pub book_frame : (frames f : ℕ) → 26 ≤ f → f < 64 + (frames + 255) / 256 → is_book_frame frames f ≡ true
unfolding is_book_frame
book_frame frames f least most = and_from _ _ (le-leb 26 f least) (lt-ltb f (64 + (frames + 255) / 256) most)

-- a place outside them lies in front of the descriptors or behind them
pub outside_books : (frames p : ℕ) → is_book_frame frames (p / 4096) ≡ false
    → (p < 0x40000) ⊎ (0x40000 + 16 * frames ≤ p)
unfolding is_book_frame
outside_books frames p outside =
    elim (and_cases (nat_le 26 (p / 4096)) (nat_lt (p / 4096) (64 + (frames + 255) / 256)) outside) [
      | inl low ↦ inl (omega (arith, leb-false 26 (p / 4096) low))
      | inr high ↦ inr (omega (arith, ltb-false (p / 4096) (64 + (frames + 255) / 256) high))
    ]

-- memories of one size that agree in the frames of descriptors hold the same ones
module _ (frames : ℕ) (m n : List ℕ) (held : HoldsDescriptors frames m) (size : length n ≡ length m)
    (same : (p : ℕ) → 0x40000 ≤ p → is_book_frame frames (p / 4096) ≡ true → byte_at n p ≡ byte_at m p) where
  field_same : (at f : ℕ) → at ≤ 12 → f < frames → field_in n at f ≡ field_in m at f
  unfolding field_in
  field_same at f small inside =
      number_same n m 4 (0x40000 + 16 * f + at)
      (λ q low high. same q (omega (arith, low))
      (book_frame frames (q / 4096) (omega (arith, low)) (omega (arith, high, small, inside))))

  inside_of : (f : ℕ) → f < length m / 4096 → f < frames
  inside_of f inside = omega (arith, inside, frames_in frames m held)

  pub descriptors_same : descriptors_in n ≡ descriptors_in m
  descriptors_same =
      let kinds = kinds_alike m n size (λ f inside. field_same 0 f (omega arith) (inside_of f inside)) in
      let loose = loose_alike m n size (λ f inside. field_same 4 f (omega arith) (inside_of f inside)) in
      let links = links_alike m n size (λ f inside. field_same 8 f (omega arith) (inside_of f inside)) in
      λ j. record { kinds = kinds j; loose = loose j; links = links j }

  pub descriptors_held : HoldsDescriptors frames n
  descriptors_held =
      held_stays frames m n held size (λ f inside. field_same 0 f (omega arith) inside) (λ f inside. field_same 12 f (omega arith) inside)
      (λ p past book. same p (omega (arith, past)) book)

-- a change of descriptors alone leaves the bytes of all other frames, and doesn't show
pub others_stay : (frames : ℕ) (m n : List ℕ) (p : ℕ) → HoldsDescriptors frames m → DiffersInDescriptors m n
    → is_book_frame frames (p / 4096) ≡ false → byte_at n p ≡ byte_at m p
others_stay frames m n p held differs outside =
    differs.elsewhere p
    (outside_books (length m / 4096) p (ap (λ k. is_book_frame k (p / 4096)) (frames_in frames m held) ∙ outside))

pub change_unseen : ((hidden : ℕ → Bool) (m n : List ℕ) → length m ≡ length n
    → ((p : ℕ) → hidden (p / 4096) ≡ false → byte_at m p ≡ byte_at n p) → masked hidden m ≡ masked hidden n)
    → (m n : List ℕ) → DiffersInDescriptors m n → seen n ≡ seen m
change_unseen alike m n differs =
    ap (λ k. masked (is_book_frame (k / 4096)) n) differs.size
    ∙ alike (is_book_frame (length m / 4096)) n m differs.size
    (λ p outside. differs.elsewhere p (outside_books (length m / 4096) p outside))
