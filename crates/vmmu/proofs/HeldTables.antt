-- Tables under descriptors in memory, after a change of one frame that is none of the books'.
use Rattle.std.proofs.Common.{◌≡◌, ℕ, ◌≤◌, false, List, set, arith, refl, sym, ap, ◌∙◌, get_or-set_other}
use Rattle.std.proofs.lemmas.Bool.{true≢false}
use Rattle.nk_bits.specs.declared.kind.Kind.{Kind}
use Rattle.nk_bits.specs.declared.kind.Kind.TheVariants.{Data, Code, Table, Fixed, Trap, Guarded, Hidden}
use Rattle.nk_bits.specs.Kinds.{is_hidden, kind_of, level_of}
use Rattle.phys_mem.specs.MaskedMemory.{is_book_frame, seen}
use Rattle.page_desc.specs.DescriptorBytes.{HoldsDescriptors, HoldsTables, descriptors_in, kinds_in}
use Rattle.page_desc.specs.PageTables.{AreDescribed}

-- a table isn't hidden
pub table_shown : (kind : Kind) → 1 ≤ level_of kind → is_hidden kind ≡ false
table_shown Data low = refl
table_shown Code low = refl
table_shown (Table level) low = refl
table_shown Fixed low = refl
table_shown Trap low = refl
table_shown Guarded low = refl
table_shown Hidden low = absurd (omega (arith, low))

module _ (frames root : ℕ) (m n : List ℕ) (books : HoldsTables frames root m) (stored : HoldsDescriptors frames n)
    (described : AreDescribed (descriptors_in n) root (seen n)) where
  -- kinds stay
  pub held_written : kinds_in n ≡ kinds_in m → HoldsTables frames root n
  held_written kinds = record {
    stored = stored;
    described = described;
    hidden = λ f book. ap (λ k. kind_of k f) kinds ∙ books.hidden f book;
  }

  -- the kind of a frame is set
  pub held_set : (frame : ℕ) (kind : Kind) → is_book_frame frames frame ≡ false → kinds_in n ≡ set (kinds_in m) frame kind
      → HoldsTables frames root n
  held_set frame kind shown kinds = record {
    stored = stored;
    described = described;
    hidden = λ f book.
        ap (λ k. kind_of k f) kinds
        ∙ get_or-set_other (kinds_in m) frame f kind Hidden (λ is. true≢false (sym book ∙ ap (is_book_frame frames) is ∙ shown))
        ∙ books.hidden f book;
  }
