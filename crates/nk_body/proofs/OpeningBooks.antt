-- The frames of the books at the opening: they are hidden, and hold 0.
use Rattle.std.proofs.Common.{◌≡◌, ◌≢◌, ◌⊎◌, ℕ, ◌+◌, ◌*◌, ◌/◌, ◌%◌, ◌<◌, ◌≤◌, ◌||◌, Bool, true, false, List, length, refl, sym, ap, subst, ◌∙◌, arith, inl, inr}
use Rattle.std.specs.Prelude.{nat_le, nat_lt, if◌then◌else◌, slice_index}
use Rattle.std.proofs.lemmas.Bool.{agree_below_at, and_parts, cases_lt, cond-false, cond-true, false≢true, le-ltb, leb-true, lt-ltb, ltb-true}
use Rattle.nk_bits.specs.declared.kind.Kind.{Kind}
use Rattle.nk_bits.specs.declared.kind.Kind.TheVariants.{Data, Code, Table, Fixed, Trap, Guarded, Hidden}
use Rattle.nk_bits.specs.Kinds.{is_hidden, kind_of}
use Rattle.phys_mem.specs.MaskedMemory.{is_book_frame, masked, seen}
use Rattle.phys_mem.specs.Memory.{byte_at, entry_in, number_at}
use Rattle.elf_image.specs.Pages.{is_executable, pages_of}
use Rattle.boot_map.specs.declared.part.Part.{Part}
use Rattle.boot_map.specs.declared.part.Part.TheVariants.{IdtAndTss, GateText, HandlerSlot, TrapStack, NestedStack, Root, SlotTable, AreaDirectory, AreaTable, ImageDirectory, Pool, WriteLog, WrittenBits, RegionBook, Descriptors, RangeTable, ImagePage, MapRoot, MapDirectory, MapTable, Free}
use Rattle.boot_map.specs.Division.{Division, division_of, tables_start}
use Rattle.boot_map.specs.Opening.{IsOpening, division_byte, byte_of_part}
use Rattle.boot_map.specs.OpeningKinds.{kind_at, kind_of_part, kinds}
use Rattle.boot_map.specs.Parts.{common_part, part_at, sized_part}
use Rattle.page_desc.specs.DescriptorBytes.{DiffersInDescriptors, HoldsDescriptors, descriptors_in, kinds_in}
use Rattle.page_desc.specs.FrameDescriptors.{AreCounted}
use Rattle.page_desc.specs.PageTables.{HoldsSoundTables}
use Rattle.page_desc.specs.StoredLaws.{StoredLaws}
use Rattle.region_book.specs.RegionBytes.{DiffersInRegions, HoldsRegions, RegionIndex, book_in}
use Rattle.region_book.specs.RegionLaws.{HeldRegionsLaws}
use Rattle.write_log.specs.LogBytes.{DiffersInLog, HoldsLog, LogCounts}
use Rattle.write_log.specs.LogLaws.{HeldLogLaws}
use Rattle.nk_body.specs.CallMade.{KeepsForm}
use Rattle.nk_body.specs.NestedRecord.{HasFixedFrames, HoldsBooks, IsLedgerKept, Ledger, OwnState, books_in, handler_in}
use Rattle.nk_body.specs.SourceWords.{opening_ledger}

-- where they lie
book_bounds : (frames f : ℕ) → is_book_frame frames f ≡ true → (26 ≤ f) × (f < 64 + (frames + 255) / 256)
unfolding is_book_frame
book_bounds frames f is =
    let parts = and_parts (nat_le 26 f) (nat_lt f (64 + (frames + 255) / 256)) is in
    (leb-true 26 f parts.0, ltb-true f (64 + (frames + 255) / 256) parts.1)

pub book_inside : (frames f : ℕ) → 512 ≤ frames → is_book_frame frames f ≡ true → f < frames
book_inside frames f least is = let at = book_bounds frames f is in omega (arith, least, at.1)

-- what an opening has there is hidden
hidden_is : (kind : Kind) → is_hidden kind ≡ true → kind ≡ Hidden
hidden_is Data is = absurd (false≢true is)
hidden_is Code is = absurd (false≢true is)
hidden_is (Table level) is = absurd (false≢true is)
hidden_is Fixed is = absurd (false≢true is)
hidden_is Trap is = absurd (false≢true is)
hidden_is Guarded is = absurd (false≢true is)
hidden_is Hidden is = refl

passed_over : (a b : Bool) → (a || b) ≡ true → a ≡ false → b ≡ true
passed_over true b is off = absurd (false≢true (sym off))
passed_over false b is off = is

common_hidden : (b : List ℕ) (f : ℕ) → 26 ≤ f → f < 64 → kind_of_part b (common_part f) ≡ Hidden
common_hidden b f low high =
    hidden_is (kind_of_part b (common_part f))
    (passed_over (nat_lt f 26) (is_hidden (kind_of_part b (common_part f)))
    (agree_below_at (λ n. nat_lt n 26 || is_hidden (kind_of_part b (common_part n))) (λ n. true) 64 f refl high)
    (le-ltb f 26 low))

opened_hidden : (b : List ℕ) (frames f : ℕ) → is_book_frame frames f ≡ true → kind_at b frames f ≡ Hidden
unfolding kind_at part_at
opened_hidden b frames f is =
    let d : Division = division_of b frames in
    let at = book_bounds frames f is in
    elim (cases_lt f 64) [
      | inl low ↦
          ap (kind_of_part b) (cond-true (nat_lt f 64) (common_part f) (sized_part d f) (lt-ltb f 64 low))
          ∙ common_hidden b f at.0 low
      | inr high ↦
          ap (kind_of_part b) (cond-false (nat_lt f 64) (common_part f) (sized_part d f) (le-ltb f 64 high)
          ∙ cond-true (nat_lt f (tables_start d)) _ _ (lt-ltb f (tables_start d) at.1))
    ]

pub kinds_hidden : (b : List ℕ) (frames f : ℕ) → 512 ≤ frames
    → ((frame : ℕ) → frame < frames → kind_of (kinds b frames) frame ≡ kind_at b frames frame)
    → is_book_frame frames f ≡ true → kind_of (kinds b frames) f ≡ Hidden
kinds_hidden b frames f least each is = each f (book_inside frames f least is) ∙ opened_hidden b frames f is

-- a part whose frames are hidden has no byte of its own
other_kind : (kind : Kind) → is_hidden kind ≡ false → kind ≢ Hidden
other_kind kind shown is = false≢true (sym shown ∙ ap is_hidden is)

page_shown : (executable : Bool) → is_hidden (if executable then Code else Data) ≡ false
page_shown true = refl
page_shown false = refl

no_byte : (b : List ℕ) (d : Division) (part : Part) (o : ℕ) → kind_of_part b part ≡ Hidden → byte_of_part b d part o ≡ 0
no_byte b d IdtAndTss o is = absurd (other_kind Fixed refl is)
no_byte b d GateText o is = absurd (other_kind Fixed refl is)
no_byte b d HandlerSlot o is = absurd (other_kind Fixed refl is)
no_byte b d TrapStack o is = absurd (other_kind Trap refl is)
no_byte b d NestedStack o is = absurd (other_kind Fixed refl is)
no_byte b d Root o is = absurd (other_kind (Table 4) refl is)
no_byte b d SlotTable o is = absurd (other_kind Fixed refl is)
no_byte b d AreaDirectory o is = absurd (other_kind Fixed refl is)
no_byte b d AreaTable o is = absurd (other_kind Fixed refl is)
no_byte b d ImageDirectory o is = absurd (other_kind Fixed refl is)
no_byte b d Pool o is = absurd (other_kind Guarded refl is)
no_byte b d WriteLog o is = refl
no_byte b d WrittenBits o is = refl
no_byte b d RegionBook o is = refl
no_byte b d Descriptors o is = refl
no_byte b d (RangeTable k) o is = absurd (other_kind Fixed refl is)
no_byte b d (ImagePage k) o is = absurd (other_kind _ (page_shown (is_executable b (slice_index (pages_of b) k))) is)
no_byte b d MapRoot o is = absurd (other_kind (Table 3) refl is)
no_byte b d MapDirectory o is = absurd (other_kind (Table 2) refl is)
no_byte b d (MapTable k) o is = absurd (other_kind (Table 1) refl is)
no_byte b d Free o is = absurd (other_kind Data refl is)

pub opened_zero : (b m : List ℕ) (frames p : ℕ) → IsOpening b frames m → 512 ≤ frames → is_book_frame frames (p / 4096) ≡ true → byte_at m p ≡ 0
unfolding division_byte kind_at
opened_zero b m frames p opening least is =
    let inside : p / 4096 < frames = book_inside frames (p / 4096) least is in
    opening.bytes p (omega (arith, inside))
    ∙ no_byte b (division_of b frames) (part_at (division_of b frames) (p / 4096)) (p % 4096) (opened_hidden b frames (p / 4096) is)

-- descriptors that were put there don't show
pub unseen_back : (frames : ℕ) (m later : List ℕ) → StoredLaws → HoldsDescriptors frames later → DiffersInDescriptors m later → seen later ≡ seen m
unseen_back frames m later laws holds differs =
    sym (laws.unseen frames later m holds (record {
      size = sym differs.size;
      elsewhere = λ p at. sym (differs.elsewhere p (subst (λ n. (p < 0x40000) ⊎ (0x40000 + 16 * (n / 4096) ≤ p)) differs.size at));
    }))

-- the regions and then the log are put there too, both empty
module _ (frames : ℕ) (index : RegionIndex) (counts : LogCounts) (m with_regions later : List ℕ) (holds : HoldsDescriptors frames m)
    (regions : HoldsRegions index with_regions) (log : HoldsLog counts later)
    (first : DiffersInRegions m with_regions) (second : DiffersInLog with_regions later) where
  size : length later ≡ length m
  size = second.size ∙ first.size

  outside : (p : ℕ) → (p < 0x1A000) ⊎ (0x40000 ≤ p) → byte_at later p ≡ byte_at m p
  outside p (inl low) = second.elsewhere p (inl low) ∙ first.elsewhere p (inl (omega (arith, low)))
  outside p (inr high) = second.elsewhere p (inr (omega (arith, high))) ∙ first.elsewhere p (inr high)

  pub put_descriptors : StoredLaws → (descriptors_in later ≡ descriptors_in m) × HoldsDescriptors frames later
  put_descriptors laws = laws.agree frames m later holds size (λ p high is. outside p (inr high))

  pub put_regions : HeldRegionsLaws → (book_in index later ≡ book_in index with_regions) × HoldsRegions index later
  put_regions laws = laws.agree index with_regions later regions second.size (λ p low high. second.elsewhere p (inr low))

  pub put_unseen : HeldRegionsLaws → HeldLogLaws → seen later ≡ seen m
  put_unseen region log =
      log.unseen with_regions later (omega (arith, holds.size, holds.least, first.size)) second
      ∙ region.unseen m with_regions (omega (arith, holds.size, holds.least)) first

-- the nested area's frames have the opening's kinds
pub opened_fixed : (b : List ℕ) (frames : ℕ) → 512 ≤ frames
    → ((f : ℕ) → f < frames → kind_of (kinds b frames) f ≡ kind_at b frames f)
    → kind_at b frames 0 ≡ Fixed → kind_at b frames 1 ≡ Fixed → kind_at b frames 2 ≡ Fixed → kind_at b frames 3 ≡ Trap
    → kind_at b frames 4 ≡ Fixed → HasFixedFrames (kinds b frames)
opened_fixed b frames least each descriptors gates handler traps stack = record {
  descriptors = each 0 (omega (arith, least)) ∙ descriptors;
  gates = each 1 (omega (arith, least)) ∙ gates;
  handler = each 2 (omega (arith, least)) ∙ handler;
  traps = each 3 (omega (arith, least)) ∙ traps;
  stack = each 4 (omega (arith, least)) ∙ stack;
}

-- the opening's memory holds the books, with descriptors of the opening's kinds in it
pub opened_books : (b m later : List ℕ) (frames : ℕ) (own : OwnState) → 512 ≤ frames → seen later ≡ m
    → length (kinds b frames) ≡ frames → ((f : ℕ) → f < frames → kind_of (kinds b frames) f ≡ kind_at b frames f)
    → HasFixedFrames (kinds b frames) → HoldsSoundTables (kinds b frames) 5 m → IsLedgerKept (kinds b frames) opening_ledger
    → kinds_in later ≡ kinds b frames → AreCounted (descriptors_in later) (entry_in m) → own.frames ≡ frames → own.root ≡ 5
    → own.trap ≡ handler_in (seen later) → (books_in own later).ledger ≡ opening_ledger → KeepsForm own later → HoldsBooks own later
opened_books b m later frames own least sees count each fixed sound kept are counted size root trap ledger form =
    let every : length (kinds_in later) ≡ frames = ap length are ∙ count in
    record {
      books = record {
        described = record {
          sound = subst (λ (it : List Kind × ℕ × List ℕ). HoldsSoundTables it.0 it.1 it.2) (λ i. (sym are i, sym root i, sym sees i)) sound;
          counted = subst (λ n. AreCounted (descriptors_in later) (entry_in n)) (sym sees) counted;
        };
        least = omega (arith, every, least);
        fixed = subst HasFixedFrames (sym are) fixed;
        trap = trap;
        kept = subst (λ (it : List Kind × Ledger). IsLedgerKept it.0 it.1) (λ i. (sym are i, sym ledger i)) kept;
      };
      stored = form.stored;
      hidden = λ f is. ap (λ ks. kind_of ks f) are ∙ kinds_hidden b frames f least each (sym (ap (λ n. is_book_frame n f) size) ∙ is);
      regions = form.regions;
      log = form.log;
    }

-- the handler's address is seen
pub handler_seen : (m : List ℕ)
    → ((hidden : ℕ → Bool) (m : List ℕ) (n p : ℕ) → p % 4096 + n ≤ 4096 → hidden (p / 4096) ≡ false → number_at (masked hidden m) n p ≡ number_at m n p)
    → number_at m 8 0x2000 ≡ handler_in (seen m)
unfolding handler_in is_book_frame
handler_seen m law = sym (law (is_book_frame (length m / 4096)) m 8 0x2000 (omega arith) refl)

-- all of the opening's memory is seen
pub unseen_opening : (b m : List ℕ) (frames : ℕ) → IsOpening b frames m → 512 ≤ frames
    → ((hidden : ℕ → Bool) (m : List ℕ) → ((p : ℕ) → hidden (p / 4096) ≡ true → byte_at m p ≡ 0) → masked hidden m ≡ m)
    → seen m ≡ m
unseen_opening b m frames opening least law =
    let count : length m / 4096 ≡ frames = omega (arith, opening.length) in
    law (is_book_frame (length m / 4096)) m
    (λ p is. opened_zero b m frames p opening least (sym (ap (λ n. is_book_frame n (p / 4096)) count) ∙ is))
