-- What a pass over one number of each descriptor leaves: the tables in frames that are no books, and so what may be read
-- of them.
use Rattle.std.proofs.Common.{◌≡◌, ◌⊎◌, ℕ, zero, suc, ◌+◌, ◌*◌, ◌/◌, ◌<◌, ◌≤◌, true, false, List, length, arith, refl, sym, ap, ◌∙◌, inl, inr}
use Rattle.std.proofs.lemmas.Bool.{and_from, cases_lt, false_from_ne_true, le-leb, lt-ltb, true≢false}
use Rattle.phys_mem.specs.MaskedMemory.{is_book_frame}
use Rattle.phys_mem.specs.Memory.{byte_at, entry_in, number_at}
use Rattle.nk_bits.specs.declared.kind.Kind.{Kind}
use Rattle.nk_bits.specs.Kinds.{kind_of}
use Rattle.page_desc.specs.FieldChanges.{DiffersInField, IsReadable}
use Rattle.page_desc.specs.FrameCounts.{may_hold_table}
use Rattle.page_desc.proofs.KindChanges.{fixed_tables}

-- passes behind one another
pub differs_none : (frames at : ℕ) (m : List ℕ) → DiffersInField frames at m m
differs_none frames at m = record {
  size = refl;
  elsewhere = λ p apart. refl;
  others = λ other f apart low inside. refl;
}

pub differs_more : (frames at : ℕ) (a b c : List ℕ) → DiffersInField frames at a b → DiffersInField frames at b c
    → DiffersInField frames at a c
differs_more frames at a b c first second = record {
  size = second.size ∙ first.size;
  elsewhere = λ p apart. second.elsewhere p apart ∙ first.elsewhere p apart;
  others = λ other f apart low inside. second.others other f apart low inside ∙ first.others other f apart low inside;
}

-- numbers of the same bytes
number_agrees : (k : ℕ) (m n : List ℕ) (p : ℕ) → ((q : ℕ) → p ≤ q → q < p + k → byte_at n q ≡ byte_at m q)
    → number_at n k p ≡ number_at m k p
unfolding number_at
number_agrees zero m n p same = refl
number_agrees (suc k) m n p same =
    let first : byte_at n p ≡ byte_at m p = same p (omega arith) (omega arith) in
    let rest : number_at n k (p + 1) ≡ number_at m k (p + 1) =
    number_agrees k m n (p + 1) (λ q low high. same q (omega (arith, low)) (omega (arith, high))) in
    omega (arith, first, rest)

-- a frame that is no book lies outside the descriptors
book_apart : (frames f : ℕ) → is_book_frame frames f ≡ false → (f < 26) ⊎ (64 + (frames + 255) / 256 ≤ f)
unfolding is_book_frame
book_apart frames f other =
    elim (cases_lt f 26) [
      | inl low ↦ inl low
      | inr high ↦ elim (cases_lt f (64 + (frames + 255) / 256)) [
        | inl inside ↦ absurd (true≢false (sym (and_from _ _ (le-leb 26 f high) (lt-ltb f _ inside)) ∙ other))
        | inr past ↦ inr past
      ]
    ]

pub entry_left : (frames at : ℕ) (m n : List ℕ) (f i : ℕ) → DiffersInField frames at m n → is_book_frame frames f ≡ false
    → i < 512 → entry_in n f i ≡ entry_in m f i
unfolding entry_in
entry_left frames at m n f i change other small =
    number_agrees 8 m n (4096 * f + 8 * i) (λ q low high. change.elsewhere q (elim (book_apart frames f other) [
      | inl below ↦ inl (omega (arith, below, small, high))
      | inr above ↦ inr (omega (arith, above, low))
    ]))

-- a frame that may hold a table is none of the books'
pub table_seen : (kinds : List Kind) (m : List ℕ) (f : ℕ) → IsReadable kinds m → may_hold_table (kind_of kinds f) ≡ true
    → is_book_frame (length kinds) f ≡ false
table_seen kinds m f readable holds =
    false_from_ne_true _ (λ book. true≢false (sym holds ∙ ap may_hold_table (readable.hidden f book)))

-- so its entries stay, and tables may be read on
module _ (kinds : List Kind) (frames at : ℕ) (m n : List ℕ) (all : frames ≡ length kinds) (readable : IsReadable kinds m)
    (change : DiffersInField frames at m n) where
  pub table_left : (f i : ℕ) → i < 512 → may_hold_table (kind_of kinds f) ≡ true → entry_in n f i ≡ entry_in m f i
  table_left f i small holds =
      entry_left frames at m n f i change (ap (λ k. is_book_frame k f) all ∙ table_seen kinds m f readable holds) small

  pub directory_left : (i : ℕ) → i < 512 → entry_in n 9 i ≡ entry_in m 9 i
  directory_left i small = table_left 9 i small (ap may_hold_table readable.slot.directory)

  pub readable_left : IsReadable kinds n
  readable_left = record {
    size = change.size ∙ readable.size;
    least = readable.least;
    hidden = readable.hidden;
    slot = fixed_tables kinds (entry_in m) (entry_in n) readable.slot directory_left;
  }
