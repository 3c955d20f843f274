-- The bytes of memory with frames hidden, and what stores and a zeroed frame leave of it.
use Rattle.std.proofs.Common.{◌≡◌, ◌≢◌, ℕ, ◌+◌, ◌*◌, ◌/◌, ◌%◌, ◌<◌, ◌≤◌, Bool, true, false, List, [], ◌∷◌, length, set, All, arith, refl, sym, ap, ◌∙◌, inl, inr}
use Rattle.std.specs.Prelude.{if◌then◌else◌}
use Rattle.std.proofs.lemmas.List.{ext_get_or, get_or_past, get_or-set_same, get_or-set_other, length-set, set_past}
use Rattle.std.proofs.lemmas.List.Elements.{All-head, All-tail, All-weaker}
use Rattle.std.proofs.lemmas.List.FromFn.{length-map-range_with_len, get_or-map-range_with_len}
use Rattle.std.proofs.lemmas.Bool.{cases_Bool, cases_eq, cases_lt, cond-true, cond-false, true≢false}
use Rattle.phys_mem.specs.Memory.{IsBytes, byte_at, number_at, entry_in, stored, frame_bytes, frame_zeroed}
use Rattle.phys_mem.specs.MaskedMemory.{masked}
use Rattle.phys_mem.proofs.MemoryLaws.{length-stored, byte_elsewhere, number_same}
use Rattle.phys_mem.proofs.FrameBytes.{frame_same, length-frame_zeroed, number_zero, zeroed_byte, zeroed_byte_elsewhere}

-- the mask changes no length
pub length-masked : (hidden : ℕ → Bool) (m : List ℕ) → length (masked hidden m) ≡ length m
unfolding masked
length-masked hidden m = length-map-range_with_len (λ p. if hidden (p / 4096) then 0 else byte_at m p) 0 (length m)

-- a byte by its place
byte_within : (hidden : ℕ → Bool) (m : List ℕ) (p : ℕ) → p < length m → byte_at (masked hidden m) p ≡ if hidden (p / 4096) then 0 else byte_at m p
unfolding masked
byte_within hidden m p within = get_or-map-range_with_len (λ q. if hidden (q / 4096) then 0 else byte_at m q) 0 (length m) p p 0 within (omega arith)

byte_past : (hidden : ℕ → Bool) (m : List ℕ) (p : ℕ) → length m ≤ p → byte_at (masked hidden m) p ≡ 0
byte_past hidden m p past = get_or_past (masked hidden m) p 0 (omega (arith, past, length-masked hidden m))

pub byte_hidden : (hidden : ℕ → Bool) (m : List ℕ) (p : ℕ) → hidden (p / 4096) ≡ true → byte_at (masked hidden m) p ≡ 0
byte_hidden hidden m p covered =
    elim (cases_lt p (length m)) [
      | inl within ↦ byte_within hidden m p within ∙ cond-true (hidden (p / 4096)) 0 (byte_at m p) covered
      | inr past ↦ byte_past hidden m p past
    ]

pub byte_seen : (hidden : ℕ → Bool) (m : List ℕ) (p : ℕ) → hidden (p / 4096) ≡ false → byte_at (masked hidden m) p ≡ byte_at m p
byte_seen hidden m p shown =
    elim (cases_lt p (length m)) [
      | inl within ↦ byte_within hidden m p within ∙ cond-false (hidden (p / 4096)) 0 (byte_at m p) shown
      | inr past ↦ byte_past hidden m p past ∙ sym (get_or_past m p 0 past)
    ]

-- a memory of that length, with 0 where frames are hidden and the same bytes elsewhere, is the masked one
mask_is : (hidden : ℕ → Bool) (l m : List ℕ) → length l ≡ length m → ((p : ℕ) → hidden (p / 4096) ≡ true → byte_at l p ≡ 0)
    → ((p : ℕ) → hidden (p / 4096) ≡ false → byte_at l p ≡ byte_at m p) → l ≡ masked hidden m
mask_is hidden l m size zeros same =
    ext_get_or 0 l (masked hidden m) (size ∙ sym (length-masked hidden m))
    (λ p within.
    elim (cases_Bool (hidden (p / 4096))) [
      | inl covered ↦ zeros p covered ∙ sym (byte_hidden hidden m p covered)
      | inr shown ↦ same p shown ∙ sym (byte_seen hidden m p shown)
    ])

-- memories that agree where no frame is hidden have one mask
pub masks_alike : (hidden : ℕ → Bool) (m n : List ℕ) → length m ≡ length n → ((p : ℕ) → hidden (p / 4096) ≡ false → byte_at m p ≡ byte_at n p)
    → masked hidden m ≡ masked hidden n
masks_alike hidden m n size agree =
    mask_is hidden (masked hidden m) n (length-masked hidden m ∙ size) (byte_hidden hidden m) (λ p shown. byte_seen hidden m p shown ∙ agree p shown)

-- where all that is hidden is 0, the mask changes nothing
pub mask_unhidden : (hidden : ℕ → Bool) (m : List ℕ) → ((p : ℕ) → hidden (p / 4096) ≡ true → byte_at m p ≡ 0) → masked hidden m ≡ m
mask_unhidden hidden m zeros = sym (mask_is hidden m m refl zeros (λ p shown. refl))

pub masked_bytes : (hidden : ℕ → Bool) (m : List ℕ) → IsBytes m → IsBytes (masked hidden m)
masked_bytes hidden m bytes p =
    elim (cases_Bool (hidden (p / 4096))) [
      | inl covered ↦ omega (arith, byte_hidden hidden m p covered)
      | inr shown ↦ omega (arith, byte_seen hidden m p shown, bytes p)
    ]

-- numbers within a frame, entries, and frames
pub number_seen : (hidden : ℕ → Bool) (m : List ℕ) (n p : ℕ) → p % 4096 + n ≤ 4096 → hidden (p / 4096) ≡ false → number_at (masked hidden m) n p ≡ number_at m n p
number_seen hidden m n p fits shown =
    number_same (masked hidden m) m n p
    (λ q low high. let frame : q / 4096 ≡ p / 4096 = omega (arith, fits, low, high) in byte_seen hidden m q (ap hidden frame ∙ shown))

pub entry_seen : (hidden : ℕ → Bool) (m : List ℕ) (f i : ℕ) → i < 512 → hidden f ≡ false → entry_in (masked hidden m) f i ≡ entry_in m f i
unfolding entry_in
entry_seen hidden m f i small shown =
    let frame : (4096 * f + 8 * i) / 4096 ≡ f = omega (arith, small) in
    number_seen hidden m 8 (4096 * f + 8 * i) (omega (arith, small)) (ap hidden frame ∙ shown)

pub entry_hidden : (hidden : ℕ → Bool) (m : List ℕ) (f i : ℕ) → i < 512 → hidden f ≡ true → entry_in (masked hidden m) f i ≡ 0
unfolding entry_in
entry_hidden hidden m f i small covered =
    number_zero (masked hidden m) 8 (4096 * f + 8 * i)
    (λ q low high. let frame : q / 4096 ≡ f = omega (arith, low, high, small) in byte_hidden hidden m q (ap hidden frame ∙ covered))

pub frame_seen : (hidden : ℕ → Bool) (m : List ℕ) (f : ℕ) → hidden f ≡ false → frame_bytes (masked hidden m) f ≡ frame_bytes m f
frame_seen hidden m f shown =
    frame_same (masked hidden m) m f (length-masked hidden m) (λ q here. byte_seen hidden m q (ap hidden here ∙ shown))

-- a place in a hidden frame isn't one in a frame that is seen
places_apart : (hidden : ℕ → Bool) (f g : ℕ) → hidden f ≡ true → hidden g ≡ false → f ≢ g
places_apart hidden f g covered shown same = true≢false (sym covered ∙ ap hidden same ∙ shown)

-- stores where frames are seen are made in the masked memory too
set_alike : (l m : List ℕ) (p b q : ℕ) → length l ≡ length m → byte_at l q ≡ byte_at m q → byte_at (set l p b) q ≡ byte_at (set m p b) q
set_alike l m p b q size same =
    elim (cases_eq q p) [
      | inl here ↦ elim (cases_lt p (length m)) [
        | inl within ↦
            ap (byte_at (set l p b)) here ∙ get_or-set_same l p b 0 (omega (arith, size, within))
            ∙ sym (ap (byte_at (set m p b)) here ∙ get_or-set_same m p b 0 within)
        | inr past ↦
            ap (λ x. byte_at x q) (set_past l p b (omega (arith, size, past))) ∙ same ∙ sym (ap (λ x. byte_at x q) (set_past m p b past))
      ]
      | inr other ↦ get_or-set_other l p q b 0 other ∙ same ∙ sym (get_or-set_other m p q b 0 other)
    ]

set_seen : (hidden : ℕ → Bool) (m : List ℕ) (p b : ℕ) → hidden (p / 4096) ≡ false → masked hidden (set m p b) ≡ set (masked hidden m) p b
set_seen hidden m p b shown =
    sym (
    mask_is hidden (set (masked hidden m) p b) (set m p b) (length-set (masked hidden m) p b ∙ length-masked hidden m ∙ sym (length-set m p b))
    (λ q covered.
    get_or-set_other (masked hidden m) p q b 0 (λ e. places_apart hidden (q / 4096) (p / 4096) covered shown (ap (λ x. x / 4096) e)) ∙ byte_hidden hidden m q covered)
    (λ q there. set_alike (masked hidden m) m p b q (length-masked hidden m) (byte_seen hidden m q there)))

pub stored_seen : (hidden : ℕ → Bool) (m : List ℕ) (ws : List (ℕ × ℕ)) → All (λ w. hidden (w.0 / 4096) ≡ false) ws → masked hidden (stored m ws) ≡ stored (masked hidden m) ws
unfolding stored
stored_seen hidden m [] shown = refl
stored_seen hidden m (w ∷ ws) shown =
    stored_seen hidden (set m w.0 w.1) ws (All-tail (λ v. hidden (v.0 / 4096) ≡ false) w ws shown)
    ∙ ap (λ l. stored l ws) (set_seen hidden m w.0 w.1 (All-head (λ v. hidden (v.0 / 4096) ≡ false) w ws shown))

-- stores in hidden frames don't show
pub stored_hidden : (hidden : ℕ → Bool) (m : List ℕ) (ws : List (ℕ × ℕ)) → All (λ w. hidden (w.0 / 4096) ≡ true) ws → masked hidden (stored m ws) ≡ masked hidden m
stored_hidden hidden m ws covered =
    masks_alike hidden (stored m ws) m (length-stored m ws)
    (λ p shown.
    byte_elsewhere m ws p
    (All-weaker (λ w. hidden (w.0 / 4096) ≡ true) (λ w. w.0 ≢ p)
    (λ w there e. places_apart hidden (w.0 / 4096) (p / 4096) there shown (ap (λ x. x / 4096) e)) ws covered))

-- a frame that is seen is zeroed in the masked memory too
pub zeroed_seen : (hidden : ℕ → Bool) (m : List ℕ) (f : ℕ) → 4096 * f + 4096 ≤ length m → hidden f ≡ false
    → masked hidden (frame_zeroed m f) ≡ frame_zeroed (masked hidden m) f
zeroed_seen hidden m f fits shown =
    let inside : 4096 * f + 4096 ≤ length (masked hidden m) = omega (arith, fits, length-masked hidden m) in
    sym (
    mask_is hidden (frame_zeroed (masked hidden m) f) (frame_zeroed m f)
    (length-frame_zeroed (masked hidden m) f inside ∙ length-masked hidden m ∙ sym (length-frame_zeroed m f fits))
    (λ q covered. zeroed_byte_elsewhere (masked hidden m) f q inside (places_apart hidden (q / 4096) f covered shown) ∙ byte_hidden hidden m q covered)
    (λ q there.
    elim (cases_eq (q / 4096) f) [
      | inl here ↦ zeroed_byte (masked hidden m) f q inside here ∙ sym (zeroed_byte m f q fits here)
      | inr other ↦ zeroed_byte_elsewhere (masked hidden m) f q inside other ∙ byte_seen hidden m q there ∙ sym (zeroed_byte_elsewhere m f q fits other)
    ]))

-- what isn't 0 in a hidden frame is lost
pub hidden_lost : (hidden : ℕ → Bool) (m : List ℕ) (p : ℕ) → hidden (p / 4096) ≡ true → byte_at m p ≢ 0 → masked hidden m ≢ m
hidden_lost hidden m p covered stands same = stands (ap (λ l. byte_at l p) (sym same) ∙ byte_hidden hidden m p covered)
