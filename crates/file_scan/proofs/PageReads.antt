-- A page by the part of the file in it, and how it is scanned.
use Rattle.std.proofs.Common.{Bool, false, ◌≡◌, ◌<◌, ◌+◌, ◌-◌, ◌*◌, ◌++◌, ℕ, List, length, take, drop, replicate, slice_index, refl, ap, sym, ◌∙◌, subst, arith, Option, None}
use Rattle.std.specs.Prelude.{filter}
use Rattle.elf_image.specs.Home.{page_size}
use Rattle.elf_image.specs.FileParts.{ArePages, AreTrueOf, IsPart, page_with}
use Rattle.elf_image.specs.HeaderRows.{FileHeaders}
use Rattle.elf_image.specs.Pages.{IsBytesOfPage, is_executable, page_count, pages_of}
use Rattle.elf_image.specs.SegmentPages.{is_executable_of, pages_in}
use Rattle.byte_scanner.specs.declared.encoding.Found.{Found}
use Rattle.byte_scanner.specs.FirstFound.{first_found}
use Rattle.byte_scanner.specs.PieceRuns.{Feeds}
use Rattle.byte_scanner.specs.Scanned.{Scanned}
use Rattle.byte_scanner.specs.ScannedCode.{HasWalked}
use Rattle.file_scan.specs.ShelfChanges.{ShelfState}
use Rattle.file_scan.specs.ScanStops.{IsGoodWith}
use Rattle.file_scan.specs.WalkedPieces.{HasHeaders, IsAhead, IsWalk}

pub page_read : (h : FileHeaders) (i at skip len room : ℕ) (page b : List ℕ) → AreTrueOf b h
    → IsPart h.size h.segments (page_size * slice_index (pages_in h.segments) i) at skip len → room ≡ page_size
    → page ≡ replicate skip 0 ++ (take len (drop at b) ++ replicate (room - (skip + len)) 0)
    → IsBytesOfPage b (slice_index (pages_of b) i) page
page_read h i at skip len room page b told part size laid =
    let fitted : page ≡ page_with b at skip len =
    laid ∙ ap (λ (m : ℕ). replicate skip 0 ++ (take len (drop at b) ++ replicate (m - (skip + len)) 0)) size in
    let P : List ℕ → Type 0 = λ bytes. IsBytesOfPage b (slice_index (pages_in h.segments) i) bytes in
    let Q : List ℕ → Type 0 = λ ps. IsBytesOfPage b (slice_index ps i) page in
    subst Q told.pages (subst P (sym fitted) (told.bytes (slice_index (pages_in h.segments) i) at skip len part))

-- the pages behind one begin past its end
pub ahead_on : (h : FileHeaders) (i : ℕ) (s : Scanned) → ArePages h.segments (pages_in h.segments) → i < length (pages_in h.segments)
    → s.end ≡ page_size * slice_index (pages_in h.segments) i + page_size → IsAhead (pages_in h.segments) s (i + 1)
ahead_on h i s pages inside is j low below = omega (arith, pages.ascending i j (omega arith) below, is)

-- and a page may be passed over
pub ahead_over : (ps : List ℕ) (i : ℕ) (s : Scanned) → IsAhead ps s i → IsAhead ps s (i + 1)
ahead_over ps i s ahead j low below = ahead j (omega arith) below

-- the pages of the headers are the file's
module _ (h : FileHeaders) (b : List ℕ) (told : AreTrueOf b h) where
  the_page : (i : ℕ) → slice_index (pages_in h.segments) i ≡ slice_index (pages_of b) i
  the_page i = ap (λ (ps : List ℕ). slice_index ps i) told.pages

  pub may_run : (i : ℕ) → is_executable b (slice_index (pages_of b) i) ≡ is_executable_of h.segments (slice_index (pages_in h.segments) i)
  may_run i = sym (told.executable (slice_index (pages_in h.segments) i) ∙ ap (is_executable b) (the_page i))

  pub may_not_run : (i : ℕ) (exec : Bool) → exec ≡ is_executable_of h.segments (slice_index (pages_in h.segments) i) → exec ≡ false
      → is_executable b (slice_index (pages_of b) i) ≡ false
  may_not_run i exec is off = may_run i ∙ sym is ∙ off

  pub counted : page_count b ≡ length (pages_in h.segments)
  counted = ap length (sym told.pages)

  pub fed_there : (s after : Scanned) (i va : ℕ) (bytes : List ℕ) (found : Option Found)
      → va ≡ page_size * slice_index (pages_in h.segments) i → Feeds s after va bytes found
      → Feeds s after (page_size * slice_index (pages_of b) i) bytes found
  fed_there s after i va bytes found there feeds =
      let P : ℕ → Type 0 = λ at. Feeds s after at bytes found in
      subst P (there ∙ ap (λ (n : ℕ). page_size * n) (the_page i)) feeds

-- no page was scanned yet
pub walk_begun : (now : ShelfState) (name : List ℕ) (h : FileHeaders) (s : Scanned) → s.end ≡ 0 → ((b : List ℕ) → HasWalked b s 0) → IsWalk (record { before = now; after = now }) name h s 0
walk_begun now name h s none begun = record {
  kept = record { same_files = refl; never_falls = λ other. omega arith; wants_stand = omega arith };
  ahead = λ j low below. omega (arith, none);
  walked = λ b held. begun b;
}

pub admitted_by : (b : List ℕ) (h : FileHeaders) (entry pages : ℕ) → HasHeaders h b → AreTrueOf b h → first_found b ≡ None → entry ≡ h.entry
    → pages ≡ length (filter (λ n. is_executable_of h.segments n) (pages_in h.segments)) → IsGoodWith entry pages b
admitted_by b h entry pages has told clean named count_is = record {
  good = record { within = has.within; formed = has.image.form; clean = clean };
  entry_is = named ∙ told.entry;
  pages_are = count_is ∙ told.count;
}
