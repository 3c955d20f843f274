-- Frames that are filled entry by entry, and a memory that is filled frame by frame.
use Rattle.std.proofs.Common.{◌≡◌, ◌==◌, ℕ, ◌+◌, ◌*◌, ◌-◌, ◌/◌, ◌%◌, ◌<◌, ◌≤◌, List, ◌++◌, length, take, drop, get_or, nat_lt, refl, sym, ap, ◌∙◌, arith, w64, inl, inr, length-append, length-drop, append_assoc}
use Rattle.std.specs.Int.{to_le_bytes}
use Rattle.std.proofs.lemmas.Bool.{cases_lt, le-ltb, ne_eqb, cond-false}
use Rattle.std.proofs.lemmas.List.{get_or_append_left, get_or-append_right, get_or-take, get_or-drop, length-take}
use Rattle.std.proofs.Math.Seq.{take-length}
use borrow.Rule.Slice.PartMut.{put_mid}
use Rattle.phys_mem.specs.Memory.{byte_at}
use Rattle.phys_mem.specs.FrameLends.{with_frame}
use Rattle.boot_map.specs.declared.part.Part.TheVariants.{Free}
use Rattle.boot_map.specs.Division.{Division, division_of, free_start, map_start, pages_start, tables_start}
use Rattle.boot_map.specs.Parts.{part_at}
use Rattle.boot_map.specs.Opening.{IsFilled, IsOpening, division_byte, byte_of_number, byte_of_part, entry_byte}
use Rattle.boot_map.proofs.Bytes.{byte_of_le_bytes}

-- a part of a list that is replaced: below it, in it, and above it
replaced_below : (a o : ℕ) (xs ys zs : List ℕ) → a ≤ length xs → o < a → get_or (take a xs ++ (ys ++ zs)) o 0 ≡ get_or xs o 0
replaced_below a o xs ys zs fits below =
    get_or_append_left (take a xs) (ys ++ zs) 0 o (omega (arith, length-take a xs)) ∙ get_or-take a xs o 0 below

replaced_in : (a k : ℕ) (xs ys zs : List ℕ) → a ≤ length xs → k < length ys → get_or (take a xs ++ (ys ++ zs)) (a + k) 0 ≡ get_or ys k 0
replaced_in a k xs ys zs fits within =
    let place : a + k - a ≡ k = omega arith in
    get_or-append_right (take a xs) (ys ++ zs) a (a + k) 0 (omega (arith, length-take a xs)) (omega arith)
    ∙ ap (λ j. get_or (ys ++ zs) j 0) place ∙ get_or_append_left ys zs 0 k within

replaced_above : (a k : ℕ) (xs ys zs : List ℕ) → a ≤ length xs → get_or (take a xs ++ (ys ++ zs)) (a + length ys + k) 0 ≡ get_or zs k 0
replaced_above a k xs ys zs fits =
    let place : a + length ys + k - a ≡ length ys + k = omega arith in
    let rest : length ys + k - length ys ≡ k = omega arith in
    get_or-append_right (take a xs) (ys ++ zs) a (a + length ys + k) 0 (omega (arith, length-take a xs)) (omega arith)
    ∙ ap (λ j. get_or (ys ++ zs) j 0) place ∙ get_or-append_right ys zs (length ys) (length ys + k) 0 refl (omega arith) ∙ ap (λ j. get_or zs j 0) rest

-- a table that has one entry more
pub entry_more : (entries : ℕ → ℕ) (i n v : ℕ) (xs ys : List ℕ) → 8 * i + 8 ≤ length xs → v ≡ entries i → ys ≡ to_le_bytes w64 v → length ys ≡ 8
    → ((o : ℕ) → o < 8 * i → get_or xs o 0 ≡ entry_byte entries o) → (o : ℕ) → o < 8 * (i + 1) → get_or (put_mid (8 * i) n xs ys) o 0 ≡ entry_byte entries o
entry_more entries i n v xs ys fits value bytes eight so_far o small = elim (cases_lt o (8 * i)) [
  | inl below ↦ replaced_below (8 * i) o xs ys _ (omega arith) below ∙ so_far o below
  | inr above ↦
      let k : ℕ = o - 8 * i in
      let place : o ≡ 8 * i + k = omega arith in
      let within : k < 8 = omega arith in
      let index : i ≡ o / 8 = omega arith in
      let offset : k ≡ o % 8 = omega arith in
      ap (λ j. get_or (put_mid (8 * i) n xs ys) j 0) place ∙ replaced_in (8 * i) k xs ys _ (omega arith) (omega arith) ∙ ap (λ zs. get_or zs k 0) bytes
      ∙ byte_of_le_bytes v k within ∙ ap (λ x. byte_of_number x k) (value ∙ ap entries index) ∙ ap (byte_of_number (entries (o / 8))) offset
]

-- the frames below f are as at the opening, and every other byte is 0
pub record IsFilledBelow (b : List ℕ) (frames f : ℕ) (m : List ℕ) : Type 0 where
  pub length : length m ≡ 4096 * frames
  pub below : (p : ℕ) → p < 4096 * f → byte_at m p ≡ division_byte b frames p
  pub above : (p : ℕ) → 4096 * f ≤ p → byte_at m p ≡ 0

-- the bytes of a frame in memory, put into it
with_frame_is : (m : List ℕ) (f : ℕ) (bs : List ℕ) → 4096 * f + length bs ≤ length m → with_frame m f bs ≡ take (4096 * f) m ++ (bs ++ drop (4096 * f + length bs) m)
with_frame_is m f bs fits =
    let p : ℕ = 4096 * f in
    let size : length (take p m ++ bs ++ drop (p + length bs) m) ≡ length m = simp (length-append, length-take, length-drop) (omega arith) in
    ap (λ n. take n (take p m ++ bs ++ drop (p + length bs) m)) (sym size) ∙ take-length (take p m ++ bs ++ drop (p + length bs) m)
    ∙ append_assoc (take p m) bs (drop (p + length bs) m)

-- the byte at an offset of frame f
pub byte_of_frame : (b : List ℕ) (d : Division) (frames f o : ℕ) → d ≡ division_of b frames → o < 4096 → byte_of_part b d (part_at d f) o ≡ division_byte b frames (4096 * f + o)
unfolding division_byte
byte_of_frame b d frames f o division small =
    let frame : f ≡ (4096 * f + o) / 4096 = omega arith in
    let offset : o ≡ (4096 * f + o) % 4096 = omega arith in
    ap (λ e. byte_of_part b e (part_at e f) o) division
    ∙ ap (λ g. byte_of_part b (division_of b frames) (part_at (division_of b frames) g) o) frame
    ∙ ap (byte_of_part b (division_of b frames) (part_at (division_of b frames) ((4096 * f + o) / 4096))) offset

-- one frame more is filled
pub frame_more : (b m bs : List ℕ) (d : Division) (frames f : ℕ) → d ≡ division_of b frames → f < frames → IsFilledBelow b frames f m
    → IsFilled (byte_of_part b d (part_at d f)) bs → IsFilledBelow b frames (f + 1) (with_frame m f bs)
frame_more b m bs d frames f division small so_far filled =
    let full : length bs ≡ 4096 = filled.full in
    let size : length m ≡ 4096 * frames = so_far.length in
    let fits : 4096 * f + length bs ≤ length m = omega arith in
    let starts : 4096 * f ≤ length m = omega arith in
    let rest : List ℕ = drop (4096 * f + length bs) m in
    let same : with_frame m f bs ≡ take (4096 * f) m ++ (bs ++ rest) = with_frame_is m f bs fits in
    record {
      length = ap length same ∙ simp (length-append, length-take, length-drop) (omega arith);
      below = λ p h. elim (cases_lt p (4096 * f)) [
        | inl before ↦ ap (λ xs. get_or xs p 0) same ∙ replaced_below (4096 * f) p m bs rest starts before ∙ so_far.below p before
        | inr after ↦
            let o : ℕ = p - 4096 * f in
            let place : p ≡ 4096 * f + o = omega arith in
            let within : o < 4096 = omega arith in
            ap (λ xs. get_or xs p 0) same ∙ ap (λ q. get_or (take (4096 * f) m ++ (bs ++ rest)) q 0) place
            ∙ replaced_in (4096 * f) o m bs rest starts (omega arith) ∙ filled.each o within ∙ byte_of_frame b d frames f o division within ∙ ap (division_byte b frames) (sym place)
      ];
      above = λ p h.
          let k : ℕ = p - (4096 * f + length bs) in
          let place : p ≡ 4096 * f + length bs + k = omega arith in
          ap (λ xs. get_or xs p 0) same ∙ ap (λ q. get_or (take (4096 * f) m ++ (bs ++ rest)) q 0) place ∙ replaced_above (4096 * f) k m bs rest starts
          ∙ get_or-drop (4096 * f + length bs) m k 0 ∙ so_far.above (4096 * f + length bs + k) (omega arith);
    }

-- the frames from the first free one on are free
free_from : (d : Division) (f : ℕ) → free_start d ≤ f → part_at d f ≡ Free
unfolding part_at
free_from d f past =
    cond-false (nat_lt f 64) _ _ (le-ltb f 64 (omega arith)) ∙ cond-false (nat_lt f (tables_start d)) _ _ (le-ltb f (tables_start d) (omega arith))
    ∙ cond-false (nat_lt f (pages_start d)) _ _ (le-ltb f (pages_start d) (omega arith)) ∙ cond-false (nat_lt f (map_start d)) _ _ (le-ltb f (map_start d) (omega arith))
    ∙ cond-false (f == map_start d) _ _ (ne_eqb f (map_start d) (λ e. absurd (omega (arith, e)))) ∙ cond-false (f == map_start d + 1) _ _ (ne_eqb f (map_start d + 1) (λ e. absurd (omega (arith, e))))
    ∙ cond-false (nat_lt f (free_start d)) _ _ (le-ltb f (free_start d) past)

free_byte : (b : List ℕ) (d : Division) (frames p : ℕ) → d ≡ division_of b frames → free_start d ≤ p / 4096 → division_byte b frames p ≡ 0
unfolding division_byte
free_byte b d frames p division past =
    let same : free_start d ≡ free_start (division_of b frames) = ap free_start division in
    ap (λ part. byte_of_part b (division_of b frames) part (p % 4096)) (free_from (division_of b frames) (p / 4096) (omega arith))

-- with every frame filled that isn't free, the memory is that of the opening
pub all_filled : (b m : List ℕ) (d : Division) (frames f : ℕ) → d ≡ division_of b frames → free_start d ≤ f → IsFilledBelow b frames f m → IsOpening b frames m
all_filled b m d frames f division all filled = record {
  length = filled.length;
  bytes = λ p h. elim (cases_lt p (4096 * f)) [
    | inl below ↦ filled.below p below
    | inr above ↦ filled.above p above ∙ sym (free_byte b d frames p division (omega arith))
  ];
}
