-- The ledger's lines by place, and the bytes of a region as memory holds them.
use Rattle.std.proofs.Common.{◌≡◌, ℕ, zero, suc, ◌+◌, ◌*◌, ◌/◌, ◌%◌, ◌<◌, ◌≤◌, Bool, true, false, List, [], ◌∷◌, ◌++◌, length, map, Option, None, Some, refl, sym, ap, ◌∙◌, subst, arith}
use Rattle.std.specs.Prelude.{All, AllPairs, ◌==◌, ◌&&◌, nat_lt, if◌then◌else◌, option_map, slice_get, slice_index, slice_index_or}
use Rattle.std.specs.List.{find, range_with_len}
use Rattle.std.proofs.lemmas.Bool.{eq-eqb, eqb-true, lt-ltb}
use Rattle.std.proofs.lemmas.Option.{slice_get-get_or, same_Some}
use Rattle.phys_mem.specs.Memory.{byte_at}
use Rattle.nk_bits.specs.declared.kind.Kind.{Kind}
use Rattle.nk_bits.specs.declared.kind.Kind.TheVariants.{Guarded}
use Rattle.nk_bits.specs.Kinds.{is_guarded, kind_of}
use Rattle.nk_body.specs.NestedRecord.{AreBooks, Books, Nested, held_bytes, nested_by}
use Rattle.region_book.specs.declared.regions.Region.{Region}
use Rattle.region_book.specs.RegionBytes.{RegionIndex, book_in, row_in}
use Rattle.region_book.specs.RegionRecords.{Book, IsBook, IsRegion, RegionRecord, byte_place, region_of, shown_region}
use Rattle.write_log.specs.declared.log.Noted.{Noted}
use Rattle.write_log.specs.LogRecords.{LogRecord, noted}
use Rattle.report_text.specs.ClosingSection.{bytes_of_region, lines_of, log_lines, region_lines}
use Rattle.report_text.specs.RunLines.{log_line, region_line}
use Rattle.report_text.proofs.ListedLines.{lines_alike}

-- The lines by place.

-- the line of a region that lives, and of a record that there is
pub region_text : Nested → Option RegionRecord → List ℕ
region_text nk None = []
region_text nk (Some r) = region_line r (bytes_of_region nk r)

pub record_text : ℕ → Option LogRecord → List ℕ
record_text number None = []
record_text number (Some it) = log_line number it

one_on : (g : ℕ → List ℕ) (n place : ℕ) → lines_of g n (place + 1) ≡ lines_of (λ i. g (i + 1)) n place
unfolding lines_of
one_on g zero place = refl
one_on g (suc n) place = ap (λ l. g (place + 1) ++ l) (one_on g n (place + 1))

pub regions_listed : (nk : Nested) (rs : List RegionRecord)
    → lines_of (λ i. region_text nk (slice_get rs i)) (length rs) 0 ≡ region_lines (bytes_of_region nk) rs
unfolding lines_of region_lines region_text
regions_listed nk [] = refl
regions_listed nk (r ∷ later) =
    let text : ℕ → List ℕ = λ i. region_text nk (slice_get (r ∷ later) i) in
    ap (λ l. region_line r (bytes_of_region nk r) ++ l) (
    one_on text (length later) 0
    ∙ lines_alike (λ i. text (i + 1)) (λ i. region_text nk (slice_get later i)) (length later) 0
    (λ i low. let next : i + 1 ≡ suc i = omega arith in ap text next)
    ∙ regions_listed nk later)

records_from : (number : ℕ) (log : List LogRecord)
    → lines_of (λ i. record_text (number + i) (slice_get log i)) (length log) 0 ≡ log_lines number log
unfolding lines_of log_lines record_text
records_from number [] = refl
records_from number (it ∷ later) =
    let text : ℕ → List ℕ = λ i. record_text (number + i) (slice_get (it ∷ later) i) in
    let first : number + 0 ≡ number = omega arith in
    ap (λ n. log_line n it ++ lines_of text (length later) (0 + 1)) first
    ∙ ap (λ l. log_line number it ++ l) (
    one_on text (length later) 0
    ∙ lines_alike (λ i. text (i + 1)) (λ i. record_text (number + 1 + i) (slice_get later i)) (length later) 0
    (λ i low.
    let next : i + 1 ≡ suc i = omega arith in
    let same : number + suc i ≡ number + 1 + i = omega arith in
    ap text next ∙ ap (λ n. record_text n (slice_get later i)) same)
    ∙ records_from (number + 1) later)

pub records_listed : (log : List LogRecord)
    → lines_of (λ i. record_text i (slice_get log i)) (length log) 0 ≡ log_lines 0 log
records_listed log =
    lines_alike (λ i. record_text i (slice_get log i)) (λ i. record_text (0 + i) (slice_get log i)) (length log) 0
    (λ i low. let same : i ≡ 0 + i = omega arith in ap (λ n. record_text n (slice_get log i)) same)
    ∙ records_from 0 log

-- as many regions live as there are slots
counted : {A B : Type 0} (f : A → B) (xs : List A) → length (map f xs) ≡ length xs
counted f [] = refl
counted f (x ∷ xs) = ap suc (counted f xs)

pub slots_counted : (index : RegionIndex) (m : List ℕ) → length (book_in index m).regions ≡ length index.slots
slots_counted index m = counted _ (map (row_in m) index.slots) ∙ counted (row_in m) index.slots

-- A region that lives, and a record, by place.

pub there : {A : Type 0} (xs : List A) (i : ℕ) → i < length xs → (x : A) × (slice_get xs i ≡ Some x)
there [] i low = absurd (omega (arith, low))
there (x ∷ xs) zero low = (x, refl)
there (x ∷ xs) (suc i) low = there xs i (omega (arith, low))

pub place_of : (rs : List RegionRecord) (i : ℕ) (r : RegionRecord) → i < length rs → slice_get rs i ≡ Some r
    → slice_index_or rs i r ≡ r
place_of rs i r below at = same_Some _ r (sym (slice_get-get_or rs i r below) ∙ at)

other : (a b : ℕ) → a < b → (a == b) ≡ false
other a b less = decided (a == b) refl
  where
    decided : (t : Bool) → (a == b) ≡ t → (a == b) ≡ false
    decided false e = e
    decided true e = let same = eqb-true a b e in absurd (omega (arith, less, same))

found : (rs : List RegionRecord) → AllPairs (λ one other. one.id < other.id) rs → (i : ℕ) (r : RegionRecord)
    → slice_get rs i ≡ Some r
    → find (λ it. it.id == r.id) rs ≡ Some r
found [] rising i r e = absurd (cc)
found (x ∷ rs) rising zero r e =
    let same = same_Some x r e in
    let test : (x.id == r.id) ≡ true = eq-eqb x.id r.id (ap (λ (it : RegionRecord). it.id) same) in
    ap (λ (t : Bool). if t then Some x else find (λ it. it.id == r.id) rs) test ∙ e
found (x ∷ rs) rising (suc i) r e =
    let below : i < length rs = within rs i r e in
    let at : slice_index_or rs i x ≡ r = same_Some _ r (sym (slice_get-get_or rs i x below) ∙ e) in
    let less : x.id < r.id =
    subst (λ (it : RegionRecord). x.id < it.id) at (rising 0 (suc i) x (omega arith) (omega (arith, below))) in
    let test : (x.id == r.id) ≡ false = other x.id r.id less in
    ap (λ (t : Bool). if t then Some x else find (λ it. it.id == r.id) rs) test
    ∙ found rs (λ i j d low high. rising (suc i) (suc j) d (omega (arith, low)) (omega (arith, high))) i r e
  where
    within : (rs : List RegionRecord) (i : ℕ) (r : RegionRecord) → slice_get rs i ≡ Some r → i < length rs
    within [] i r e = absurd (cc)
    within (x ∷ rs) zero r e = omega arith
    within (x ∷ rs) (suc i) r e = let low = within rs i r e in omega (arith, low)

-- what is shown is a region that lives, and it is found by its identifier
pub record IsShown (book : Book) (i : ℕ) (it : Region) : Type 0 where
  pub region : RegionRecord
  pub at : slice_get book.regions i ≡ Some region
  pub same : it ≡ shown_region region
  pub live : region_of book it.id ≡ Some region

pub shown_at : (book : Book) → IsBook book → (i : ℕ) (it : Region) → i < length book.regions
    → Some it ≡ option_map shown_region (slice_get book.regions i) → IsShown book i it
shown_at book sound i it below e =
    let (r, at) = there book.regions i below in
    let same : it ≡ shown_region r = same_Some it (shown_region r) (e ∙ ap (option_map shown_region) at) in
    record {
      region = r;
      at = at;
      same = same;
      live = ap (λ (s : Region). region_of book s.id) same ∙ found book.regions sound.rising i r at;
    }

-- and so with a record of the log
pub record IsNoted (log : List LogRecord) (i : ℕ) (it : Noted) : Type 0 where
  pub of : LogRecord
  pub at : slice_get log i ≡ Some of
  pub same : it ≡ noted of

pub noted_at : (log : List LogRecord) (i : ℕ) (it : Noted) → i < length log
    → Some it ≡ option_map noted (slice_get log i) → IsNoted log i it
noted_at log i it below e =
    let (of, at) = there log i below in
    record { of = of; at = at; same = same_Some it (noted of) (e ∙ ap (option_map noted) at) }

-- Its bytes.

-- a guarded frame is one of memory
in_memory : (kinds : List Kind) (f : ℕ) → kind_of kinds f ≡ Guarded → f < length kinds
in_memory [] f e = absurd (cc)
in_memory (kind ∷ kinds) zero e = omega arith
in_memory (kind ∷ kinds) (suc f) e = let low = in_memory kinds f e in omega (arith, low)

pub frames_within : (books : Books) (m : List ℕ) → AreBooks books m
    → All (λ r. All (λ f. 4096 * f + 4096 ≤ length m) r.frames) books.ledger.book.regions
frames_within books m are k d low i f inside =
    let r = slice_index_or books.ledger.book.regions k d in
    let frame = slice_index_or r.frames i f in
    let count = in_memory books.frames.kinds frame (are.kept.frames k d low i f inside) in
    omega (arith, count, are.described.sound.size)

held_is : (kinds : List Kind) (m : List ℕ) (f o : ℕ) → kind_of kinds f ≡ Guarded → o < 4096
    → held_bytes kinds m f o ≡ byte_at m (4096 * f + o)
unfolding held_bytes
held_is kinds m f o guarded low =
    ap (λ (kind : Kind). if is_guarded kind && nat_lt o 4096 then byte_at m (4096 * f + o) else 0) guarded
    ∙ ap (λ (b : Bool). if b then byte_at m (4096 * f + o) else 0) (lt-ltb o 4096 low)

mapped_alike : (f g : ℕ → ℕ) (n place : ℕ) → ((o : ℕ) → o < place + n → f o ≡ g o)
    → map f (range_with_len place n) ≡ map g (range_with_len place n)
mapped_alike f g zero place same = refl
mapped_alike f g (suc n) place same =
    ap (λ x. x ∷ map f (range_with_len (place + 1) n)) (same place (omega arith))
    ∙ ap (λ l. g place ∷ l) (mapped_alike f g n (place + 1) (λ o low. same o (omega (arith, low))))

-- over a memory that has the bytes of guarded frames as this one does
module _ (books : Books) (m n : List ℕ) (are : AreBooks books m)
    (reads : (f o : ℕ) → kind_of books.frames.kinds f ≡ Guarded → o < 4096
    → byte_at n (4096 * f + o) ≡ byte_at m (4096 * f + o)) (i : ℕ) (below : i < length books.ledger.book.regions) where
  region_bytes : (r : RegionRecord) → slice_get books.ledger.book.regions i ≡ Some r
      → map (λ o. byte_at n (byte_place r o)) (range_with_len 0 r.size) ≡ bytes_of_region (nested_by books m) r
  unfolding bytes_of_region
  region_bytes r at =
      let regions = books.ledger.book.regions in
      let is : slice_index_or regions i r ≡ r = place_of regions i r below at in
      let sound : IsRegion books.ledger.book.next r =
      subst (IsRegion books.ledger.book.next) is (are.kept.book.each i r below) in
      let guarded : All (λ f. kind_of books.frames.kinds f ≡ Guarded) r.frames =
      subst (λ (r : RegionRecord). All (λ f. kind_of books.frames.kinds f ≡ Guarded) r.frames) is
      (are.kept.frames i r below) in
      mapped_alike _ _ r.size 0 (λ o low.
      let frame : (r.place + o) / 4096 < length r.frames = omega (arith, low, sound.held) in
      let holds = guarded ((r.place + o) / 4096) 0 frame in
      let offset : (r.place + o) % 4096 < 4096 = omega arith in
      reads (slice_index r.frames ((r.place + o) / 4096)) ((r.place + o) % 4096) holds offset
      ∙ sym (held_is books.frames.kinds m (slice_index r.frames ((r.place + o) / 4096)) ((r.place + o) % 4096) holds
      offset))

  -- the line of the region at this place
  pub record IsListed : Type 0 where
    pub region : RegionRecord
    pub at : slice_get books.ledger.book.regions i ≡ Some region
    pub text : region_line region (map (λ o. byte_at n (byte_place region o)) (range_with_len 0 region.size))
        ≡ region_text (nested_by books m) (slice_get books.ledger.book.regions i)

  pub listed_at : IsListed
  unfolding region_text
  listed_at =
      let nk : Nested = nested_by books m in
      let (r, at) = there books.ledger.book.regions i below in
      record {
        region = r;
        at = at;
        text = ap (region_line r) (region_bytes r at) ∙ ap (region_text nk) (sym at);
      }

-- and of the record
pub record_at : (log : List LogRecord) (i : ℕ) → i < length log
    → (it : LogRecord) × (slice_get log i ≡ Some it) × (log_line i it ≡ record_text i (slice_get log i))
unfolding record_text
record_at log i below = let (it, at) = there log i below in (it, at, ap (record_text i) (sym at))
