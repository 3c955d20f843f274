-- What is no descriptor of any frame: each lemma is named by the bytes that it refuses. The bytes of a frame's descriptor are
-- counted from 0.
use Rattle.std.proofs.Common.{◌≡◌, ◌≢◌, ℕ, ◌+◌, ◌*◌, ◌/◌, ◌%◌, ◌<◌, ◌≤◌, true, ◌==◌, List, arith, ap, sym, ◌∙◌}
use Rattle.std.proofs.lemmas.Bool.{cond_both, eqb-true}
use Rattle.phys_mem.specs.MaskedMemory.{is_book_frame}
use Rattle.phys_mem.specs.Memory.{IsBytes, byte_at, number_at}
use Rattle.nk_bits.specs.declared.kind.Kind.{Kind}
use Rattle.nk_bits.specs.declared.kind.Kind.TheVariants.{Data, Code, Table, Fixed, Trap, Guarded, Hidden}
use Rattle.page_desc.specs.DescriptorBytes.{HoldsDescriptors, field_in, kind_by, kind_from, word_of}

-- what holds of each kind that a number may stand for holds of that which it stands for
of_each : (P : Kind → Type 0) (code level : ℕ) → P Data → P Code → (code ≡ 2 → P (Table level)) → P Fixed → P Trap → P Guarded
    → P Hidden → P (kind_from code level)
of_each P code level datum image table fixed trap guarded hidden =
    cond_both (code == 0) _ _ P (λ is. datum)
    (λ is. cond_both (code == 1) _ _ P (λ is. image)
    (λ is. cond_both (code == 2) _ _ P (λ is. table (eqb-true code 2 is))
    (λ is. cond_both (code == 3) _ _ P (λ is. fixed)
    (λ is. cond_both (code == 4) _ _ P (λ is. trap)
    (λ is. cond_both (code == 5) _ _ P (λ is. guarded) (λ is. hidden))))))

-- so the number of a kind has two bytes, of which the first is below 7, and the second is 0 but for a table
word_small : (w : ℕ) → word_of (kind_by w) < 65536
unfolding kind_by
word_small w =
    of_each (λ kind. word_of kind < 65536) (w % 256) (w / 256 % 256) (omega arith) (omega arith) (λ is. omega arith) (omega arith)
    (omega arith) (omega arith) (omega arith)

code_small : (w : ℕ) → word_of (kind_by w) % 256 < 7
unfolding kind_by
code_small w =
    of_each (λ kind. word_of kind % 256 < 7) (w % 256) (w / 256 % 256) (omega arith) (omega arith) (λ is. omega arith) (omega arith)
    (omega arith) (omega arith) (omega arith)

no_level : (w : ℕ) → w % 256 ≢ 2 → word_of (kind_by w) < 256
unfolding kind_by
no_level w other =
    of_each (λ kind. word_of kind < 256) (w % 256) (w / 256 % 256) (omega arith) (omega arith) (λ is. absurd (other is)) (omega arith)
    (omega arith) (omega arith) (omega arith)

-- the four bytes of a number
bytes_of : (m : List ℕ) (at f p : ℕ) → p ≡ 0x40000 + 16 * f + at
    → field_in m at f ≡ byte_at m p + 256 * (byte_at m (p + 1) + 256 * (byte_at m (p + 2) + 256 * byte_at m (p + 3)))
unfolding field_in number_at
bytes_of m at f p is =
    let second : byte_at m (p + 1 + 1) ≡ byte_at m (p + 2) = ap (byte_at m) (omega arith) in
    let third : byte_at m (p + 1 + 1 + 1) ≡ byte_at m (p + 3) = ap (byte_at m) (omega arith) in
    ap (number_at m 4) (sym is) ∙ omega (arith, second, third)

module _ (frames f : ℕ) (m : List ℕ) (inside : f < frames) where
  first : field_in m 0 f ≡ byte_at m (0x40000 + 16 * f) + 256 * (byte_at m (0x40000 + 16 * f + 1) + 256 * (byte_at m (0x40000 + 16 * f + 2) + 256 * byte_at m (0x40000 + 16 * f + 3)))
  first = bytes_of m 0 f (0x40000 + 16 * f) (omega arith)

  last : field_in m 12 f ≡ byte_at m (0x40000 + 16 * f + 12) + 256 * (byte_at m (0x40000 + 16 * f + 12 + 1) + 256 * (byte_at m (0x40000 + 16 * f + 12 + 2) + 256 * byte_at m (0x40000 + 16 * f + 12 + 3)))
  last = bytes_of m 12 f (0x40000 + 16 * f + 12) (omega arith)

  a_third_byte_is_refused : byte_at m (0x40000 + 16 * f + 2) ≢ 0 → HoldsDescriptors frames m → ⊥
  a_third_byte_is_refused stands held = omega (arith, stands, first, held.kinds f inside, word_small (field_in m 0 f))

  a_fourth_byte_is_refused : byte_at m (0x40000 + 16 * f + 3) ≢ 0 → HoldsDescriptors frames m → ⊥
  a_fourth_byte_is_refused stands held = omega (arith, stands, first, held.kinds f inside, word_small (field_in m 0 f))

  a_byte_behind_the_links_is_refused : byte_at m (0x40000 + 16 * f + 12) ≢ 0 → HoldsDescriptors frames m → ⊥
  a_byte_behind_the_links_is_refused stands held = omega (arith, stands, last, held.unused f inside)

  kind_7_is_refused : byte_at m (0x40000 + 16 * f) ≡ 7 → HoldsDescriptors frames m → ⊥
  kind_7_is_refused seven held = omega (arith, seven, first, held.kinds f inside, code_small (field_in m 0 f))

  a_level_of_no_table_is_refused : IsBytes m → byte_at m (0x40000 + 16 * f) ≢ 2 → byte_at m (0x40000 + 16 * f + 1) ≢ 0
      → HoldsDescriptors frames m → ⊥
  a_level_of_no_table_is_refused bytes other stands held =
      let code : field_in m 0 f % 256 ≢ 2 = omega (arith, other, first, bytes (0x40000 + 16 * f)) in
      omega (arith, stands, first, held.kinds f inside, no_level (field_in m 0 f) code)

-- a byte behind the last descriptor, in its frame, and a memory that ends at the first frame of descriptors
a_byte_behind_the_last_descriptor_is_refused : (frames p : ℕ) (m : List ℕ) → 0x40000 + 16 * frames ≤ p
    → is_book_frame frames (p / 4096) ≡ true → byte_at m p ≢ 0 → HoldsDescriptors frames m → ⊥
a_byte_behind_the_last_descriptor_is_refused frames p m past book stands held = stands (held.behind p past book)

memory_of_64_frames_is_refused : (m : List ℕ) → HoldsDescriptors 64 m → ⊥
memory_of_64_frames_is_refused m held = omega (arith, held.least)
