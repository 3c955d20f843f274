-- What memory holds of the books, for those who read it as a whole: page tables and regions lie in frames that aren't
-- hidden, so that their bytes are those that are seen.
use Rattle.std.proofs.Common.{◌≡◌, ℕ, ◌+◌, ◌*◌, ◌/◌, ◌<◌, Bool, true, false, List, length, refl, sym, ap, ◌∙◌, arith}
use Rattle.phys_mem.specs.MaskedMemory.{is_book_frame, masked, seen}
use Rattle.phys_mem.specs.Memory.{byte_at}
use Rattle.nk_bits.specs.declared.kind.Kind.{Kind}
use Rattle.nk_bits.specs.declared.kind.Kind.TheVariants.{Guarded, Hidden}
use Rattle.nk_bits.specs.Kinds.{is_hidden, kind_of}
use Rattle.page_desc.specs.DescriptorBytes.{HoldsTables, kinds_in}
use Rattle.page_desc.specs.PageTables.{is_table}
use Rattle.nk_body.specs.NestedRecord.{HoldsBooks, OwnState}

pub held_tables : (own : OwnState) (m : List ℕ) → HoldsBooks own m → HoldsTables own.frames own.root m
held_tables own m held = record { stored = held.stored; described = held.books.described; hidden = held.hidden }

pub table_shows : (kind : Kind) → is_table kind ≡ true → is_hidden kind ≡ false
table_shows Hidden table = absurd (cc)
table_shows _ table = refl

-- what the laws say of frames that aren't hidden: they are none of the books', and bytes outside these are seen
abbrev pub Unhidden : Type 0
Unhidden = (frames root f : ℕ) (m : List ℕ) → HoldsTables frames root m
    → is_hidden (kind_of (kinds_in m) f) ≡ false → is_book_frame frames f ≡ false

abbrev pub Seen : Type 0
Seen = (hidden : ℕ → Bool) (m : List ℕ) (p : ℕ) → hidden (p / 4096) ≡ false → byte_at (masked hidden m) p ≡ byte_at m p

-- a byte of a guarded frame
pub guarded_byte : Unhidden → Seen → (own : OwnState) (m : List ℕ) (f o : ℕ) → HoldsBooks own m
    → kind_of (kinds_in m) f ≡ Guarded → o < 4096 → byte_at m (4096 * f + o) ≡ byte_at (seen m) (4096 * f + o)
guarded_byte unhidden seen_of own m f o held guarded low =
    let count : length m / 4096 ≡ own.frames = omega (arith, held.stored.size) in
    let frame : (4096 * f + o) / 4096 ≡ f = omega (arith, low) in
    let shows : is_book_frame own.frames f ≡ false =
    unhidden own.frames own.root f m (held_tables own m held) (ap is_hidden guarded) in
    sym (seen_of (is_book_frame (length m / 4096)) m (4096 * f + o)
    (ap (λ n. is_book_frame n ((4096 * f + o) / 4096)) count ∙ ap (is_book_frame own.frames) frame ∙ shows))
