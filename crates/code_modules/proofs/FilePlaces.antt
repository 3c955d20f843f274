-- The bytes of a file by its parts, and the file as it grows.
use Rattle.std.proofs.Common.{◌≡◌, ℕ, suc, ◌+◌, ◌-◌, ◌*◌, ◌/◌, ◌%◌, ◌<◌, ◌≤◌, ◌&&◌, List, [], ◌∷◌, ◌++◌, length, map, take, drop, replicate, get_or, inl, inr, refl, sym, ap, ◌∙◌, subst, arith, append-nil, append_assoc, length-append}
use Rattle.std.specs.Prelude.{nat_le, nat_lt, slice_index}
use Rattle.std.specs.List.{range_with_len}
use Rattle.std.proofs.Math.Seq.{split_at}
use Rattle.std.proofs.lemmas.Bool.{and_from, and_left, and_right, cases_lt, cond-false, cond-true, le-leb, le-ltb, lt-leb, lt-ltb}
use Rattle.std.proofs.lemmas.List.{get_or-append_right, get_or_append_left, get_or-replicate, length-replicate, take_all, take_more}
use Rattle.std.proofs.lemmas.List.FromFn.{map-range_with_len_more}
use Rattle.std.proofs.lemmas.Option.{slice_get-get_or}
use Rattle.elf_image.specs.WrittenHeaders.{byte_in_fields, file_header}
use Rattle.code_modules.specs.JoinedFile.{FilePart, byte_in_parts, data_start, file_of_parts, header_byte, joined_byte, part_end, part_header, parts_end}
use Rattle.code_modules.specs.PartWords.{Follow}

-- bytes behind those up to a place
pub grown : (f : ℕ → ℕ) (at : ℕ) (file xs : List ℕ) → file ≡ map f (range_with_len 0 at)
    → ((k : ℕ) → k < length xs → get_or xs k 0 ≡ f (at + k)) → file ++ xs ≡ map f (range_with_len 0 (at + length xs))
grown f at file [] made each =
    let same : at ≡ at + 0 = omega arith in
    append-nil file ∙ made ∙ ap (λ n. map f (range_with_len 0 n)) same
grown f at file (x ∷ xs) made each =
    let first : x ≡ f at = each 0 (omega arith) ∙ ap f (omega arith) in
    let more : file ++ x ∷ [] ≡ map f (range_with_len 0 (at + 1)) =
    ap (λ y. file ++ y ∷ []) first ∙ ap (λ ys. ys ++ f at ∷ []) made ∙ sym (map-range_with_len_more f 0 at at (omega arith)) in
    let rest = grown f (at + 1) (file ++ x ∷ []) xs more
    (λ k below. each (suc k) (omega arith) ∙ ap f (omega arith)) in
    let same : at + 1 + length xs ≡ at + suc (length xs) = omega arith in
    sym (append_assoc file (x ∷ []) xs) ∙ rest ∙ ap (λ n. map f (range_with_len 0 n)) same

pub one_more : (f : ℕ → ℕ) (at : ℕ) (file more : List ℕ) (x : ℕ) → file ≡ map f (range_with_len 0 at) → x ≡ f at
    → more ≡ file ++ x ∷ [] → more ≡ map f (range_with_len 0 (at + 1))
one_more f at file more x made is pushed =
    pushed ∙ ap (λ y. file ++ y ∷ []) is ∙ ap (λ ys. ys ++ f at ∷ []) made
    ∙ sym (map-range_with_len_more f 0 at at (omega arith))

pub end_rises : (e : ℕ) (ps : List FilePart) → Follow e ps → e ≤ parts_end e ps
end_rises e [] follow = omega arith
end_rises e (p ∷ ps) follow = omega (arith, follow.0, end_rises (part_end p) ps follow.1)

pub follow_split : (e : ℕ) (front back : List FilePart) → Follow e (front ++ back)
    → Follow e front × Follow (parts_end e front) back
follow_split e [] back follow = (tt, follow)
follow_split e (p ∷ front) back follow =
    let rest = follow_split (part_end p) front back follow.1 in
    ((follow.0, rest.0), rest.1)

pub ends_append : (e : ℕ) (front back : List FilePart) → parts_end e (front ++ back) ≡ parts_end (parts_end e front) back
ends_append e [] back = refl
ends_append e (p ∷ front) back = ends_append (part_end p) front back

-- a part that ends at a place or before it doesn't hold it
past_part : (p : FilePart) (later : List FilePart) (at : ℕ) → part_end p ≤ at → byte_in_parts (p ∷ later) at ≡ byte_in_parts later at
past_part p later at past =
    cond-false (nat_le p.offset at && nat_lt at (part_end p)) _ _
    (and_right (nat_le p.offset at) (nat_lt at (part_end p)) (le-ltb at (part_end p) past))

pub past_front : (e : ℕ) (front back : List FilePart) (at : ℕ) → Follow e front → parts_end e front ≤ at
    → byte_in_parts (front ++ back) at ≡ byte_in_parts back at
past_front e [] back at follow past = refl
past_front e (p ∷ front) back at follow past =
    let low : part_end p ≤ parts_end (part_end p) front = end_rises (part_end p) front follow.1 in
    past_part p (front ++ back) at (omega arith) ∙ past_front (part_end p) front back at follow.1 past

-- no part holds a place before the first
pub before_back : (e : ℕ) (ps : List FilePart) (at : ℕ) → Follow e ps → at < e → byte_in_parts ps at ≡ 0
before_back e [] at follow before = refl
before_back e (p ∷ ps) at follow before =
    let low : e ≤ p.offset = follow.0 in
    cond-false (nat_le p.offset at && nat_lt at (part_end p)) _ _
    (and_left (nat_le p.offset at) (nat_lt at (part_end p)) (lt-leb p.offset at (omega arith)))
    ∙ before_back (part_end p) ps at follow.1 (omega arith)

pub held_byte : (p : FilePart) (later : List FilePart) (at : ℕ) → p.offset ≤ at → at < part_end p
    → byte_in_parts (p ∷ later) at ≡ slice_index p.part.bytes (at - p.offset)
held_byte p later at low high =
    cond-true (nat_le p.offset at && nat_lt at (part_end p)) _ _
    (and_from (nat_le p.offset at) (nat_lt at (part_end p)) (le-leb p.offset at low) (lt-ltb at (part_end p) high))

-- the bytes of the headers
pub head_byte : (entry at : ℕ) (ps : List FilePart) → at < 64 → joined_byte entry ps at ≡ byte_in_fields (file_header entry (length ps)) at
unfolding joined_byte
head_byte entry at ps below = cond-true (nat_lt at 64) _ _ (lt-ltb at 64 below)

entry_place : (i k : ℕ) → k < 56 → (64 + 56 * i + k - 64) / 56 ≡ i
entry_place i k below = omega arith

entry_rest : (i k : ℕ) → k < 56 → (64 + 56 * i + k - 64) % 56 ≡ k
entry_rest i k below = omega arith

pub table_at : (entry at : ℕ) (ps : List FilePart) (d : FilePart) → 64 ≤ at → at < 64 + 56 * length ps
    → joined_byte entry ps at ≡ byte_in_fields (part_header (get_or ps ((at - 64) / 56) d)) ((at - 64) % 56)
unfolding joined_byte
table_at entry at ps d past inside =
    let within : (at - 64) / 56 < length ps = omega arith in
    cond-false (nat_lt at 64) _ _ (le-ltb at 64 past)
    ∙ cond-true (nat_lt at (64 + 56 * length ps)) _ _ (lt-ltb at (64 + 56 * length ps) inside)
    ∙ ap (λ o. header_byte o ((at - 64) % 56)) (slice_get-get_or ps ((at - 64) / 56) d within)

pub table_byte : (entry i k : ℕ) (ps : List FilePart) (d : FilePart) → i < length ps → k < 56
    → joined_byte entry ps (64 + 56 * i + k) ≡ byte_in_fields (part_header (get_or ps i d)) k
table_byte entry i k ps d inside below =
    table_at entry (64 + 56 * i + k) ps d (omega arith) (omega arith)
    ∙ ap (λ n. byte_in_fields (part_header (get_or ps n d)) ((64 + 56 * i + k - 64) % 56)) (entry_place i k below)
    ∙ ap (λ n. byte_in_fields (part_header (get_or ps i d)) n) (entry_rest i k below)

-- behind the headers a byte is that of a part
pub behind_headers : (entry : ℕ) (ps : List FilePart) (at : ℕ) → 64 + 56 * length ps ≤ at → joined_byte entry ps at ≡ byte_in_parts ps at
unfolding joined_byte
behind_headers entry ps at past =
    cond-false (nat_lt at 64) _ _ (le-ltb at 64 (omega arith))
    ∙ cond-false (nat_lt at (64 + 56 * length ps)) _ _ (le-ltb at (64 + 56 * length ps) past)

-- a file up to the end of some parts, and the next one
module _ (entry : ℕ) (ps front : List FilePart) (p : FilePart) (later : List FilePart) (whole : ps ≡ front ++ p ∷ later)
    (follow : Follow (64 + 56 * length ps) ps) where
  parted : Follow (64 + 56 * length ps) front × Follow (parts_end (64 + 56 * length ps) front) (p ∷ later)
  parted =
      let P : List FilePart → Type 0 = λ qs. Follow (64 + 56 * length ps) qs in
      follow_split (64 + 56 * length ps) front (p ∷ later) (subst P whole follow)

  pub begins_behind : parts_end (64 + 56 * length ps) front ≤ p.offset
  begins_behind = parted.1.0

  reached : 64 + 56 * length ps ≤ parts_end (64 + 56 * length ps) front
  reached = end_rises (64 + 56 * length ps) front parted.0

  byte_from : (at : ℕ) → parts_end (64 + 56 * length ps) front ≤ at → joined_byte entry ps at ≡ byte_in_parts (p ∷ later) at
  byte_from at past =
      behind_headers entry ps at (omega (arith, reached)) ∙ ap (λ qs. byte_in_parts qs at) whole
      ∙ past_front (64 + 56 * length ps) front (p ∷ later) at parted.0 past

  blank : (at : ℕ) → parts_end (64 + 56 * length ps) front ≤ at → at < p.offset → joined_byte entry ps at ≡ 0
  blank at past before =
      let own : p.offset ≤ p.offset = omega arith in
      byte_from at past ∙ before_back p.offset (p ∷ later) at (own, parted.1.1) before

  pub held : (at : ℕ) → p.offset ≤ at → at < part_end p → joined_byte entry ps at ≡ slice_index p.part.bytes (at - p.offset)
  held at low high = byte_from at (omega (arith, begins_behind)) ∙ held_byte p later at low high

  pub put_behind : (file : List ℕ) (size : ℕ) → size ≡ parts_end (64 + 56 * length ps) front
      → file ≡ map (joined_byte entry ps) (range_with_len 0 size)
      → file ++ (replicate (p.offset - size) 0 ++ p.part.bytes) ≡ map (joined_byte entry ps) (range_with_len 0 (part_end p))
  put_behind file size is made =
      let low : size ≤ p.offset = omega (arith, begins_behind) in
      let zeros : List ℕ = replicate (p.offset - size) 0 in
      let count : length zeros ≡ p.offset - size = length-replicate {A = ℕ} (p.offset - size) 0 in
      let total : length (zeros ++ p.part.bytes) ≡ p.offset - size + length p.part.bytes = length-append zeros p.part.bytes ∙ ap (λ n. n + length p.part.bytes) count in
      let end : size + length (zeros ++ p.part.bytes) ≡ part_end p = omega arith in
      grown (joined_byte entry ps) size file (zeros ++ p.part.bytes) made (λ k below.
      elim (cases_lt k (p.offset - size)) [
        | inl first ↦
            get_or_append_left zeros p.part.bytes 0 k (omega arith)
            ∙ get_or-replicate {A = ℕ} (p.offset - size) k 0 0 first
            ∙ sym (blank (size + k) (omega arith) (omega arith))
        | inr past ↦
            let same : size + k - p.offset ≡ k - (p.offset - size) = omega arith in
            get_or-append_right zeros p.part.bytes (p.offset - size) k 0 count past
            ∙ ap (slice_index p.part.bytes) (sym same)
            ∙ sym (held (size + k) (omega arith) (omega arith))
      ])
      ∙ ap (λ n. map (joined_byte entry ps) (range_with_len 0 n)) end

-- the same by the number of the part
module _ (entry : ℕ) (ps : List FilePart) (i : ℕ) (d : FilePart) (inside : i < length ps) (follow : Follow (64 + 56 * length ps) ps) where
  pub ends_with : parts_end (64 + 56 * length ps) (take (i + 1) ps) ≡ part_end (get_or ps i d)
  ends_with =
      ap (parts_end (64 + 56 * length ps)) (take_more ps i d inside)
      ∙ ends_append (64 + 56 * length ps) (take i ps) (get_or ps i d ∷ [])

  pub put_next : (file : List ℕ) (size : ℕ) → size ≡ parts_end (64 + 56 * length ps) (take i ps)
      → file ≡ map (joined_byte entry ps) (range_with_len 0 size)
      → file ++ (replicate ((get_or ps i d).offset - size) 0 ++ (get_or ps i d).part.bytes)
      ≡ map (joined_byte entry ps) (range_with_len 0 (part_end (get_or ps i d)))
  put_next file size is made =
      put_behind entry ps (take i ps) (get_or ps i d) (drop (suc i) ps) (split_at ps i d inside) follow file size is made

  pub next_behind : parts_end (64 + 56 * length ps) (take i ps) ≤ (get_or ps i d).offset
  next_behind = begins_behind entry ps (take i ps) (get_or ps i d) (drop (suc i) ps) (split_at ps i d inside) follow

-- all parts of a file
pub any_start : (e f : ℕ) (ps : List FilePart) → 0 < length ps → parts_end e ps ≡ parts_end f ps
any_start e f [] some = absurd (omega arith)
any_start e f (p ∷ ps) some = refl

pub whole_file : (entry : ℕ) (ps : List FilePart) (i : ℕ) (file : List ℕ) → 0 < length ps → length ps ≤ i
    → file ≡ map (joined_byte entry ps) (range_with_len 0 (parts_end (64 + 56 * length ps) (take i ps)))
    → file ≡ file_of_parts entry ps
unfolding file_of_parts
whole_file entry ps i file some all made =
    made
    ∙ ap (λ qs. map (joined_byte entry ps) (range_with_len 0 (parts_end (64 + 56 * length ps) qs))) (take_all i ps all)
    ∙ ap (λ n. map (joined_byte entry ps) (range_with_len 0 n)) (any_start (64 + 56 * length ps) (data_start (length ps)) ps some)
