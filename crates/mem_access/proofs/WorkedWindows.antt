-- Windows of data at worked values. Page 5 is writable and in frame 7, page 6 is read-only and in frame 9, page 8 is a
-- user page, read-only and in frame 12, and the last one of all, in the upper half, is writable and in frame 11. Memory
-- has sixteen frames, of which the last begins at 0xF000.
use Rattle.std.proofs.Common.{◌≡◌, ◌≢◌, ℕ, zero, suc, ◌+◌, ◌%◌, ◌<◌, ◌≤◌, Bool, true, false, List, [], ◌∷◌, ◌⊎◌, inl, inr, slice_index_or, refl, arith}
use Rattle.std.specs.Prelude.{All}
use Rattle.std.proofs.lemmas.List.Elements.{All-cons, All-nil}
use Rattle.nk_bits.specs.declared.access.Access.TheVariants.{Read, Write}
use Rattle.nk_bits.specs.declared.control.Control.{Control}
use Rattle.nk_bits.specs.declared.leaf.Leaf.{Leaf}
use Rattle.nk_bits.specs.Accesses.{smep_of, wp_of}
use Rattle.nk_bits.specs.Translations.{Translations}
use Rattle.mem_access.specs.declared.window.KeptPage.{KeptPage}
use Rattle.mem_access.specs.declared.window.Window.{Window}
use Rattle.mem_access.specs.KeptRuns.{IsKeptRun}
use Rattle.mem_access.specs.Windows.{AreBeside, IsKeptPage, IsLeftWithout, IsReadPage, IsWindow, IsWritePage}
use Rattle.mem_access.proofs.KeptLeaves.{page_of_leaf, run_of_page}

-- a leaf, by its frame and whether it is writable and a user page; nothing is fetched from any
abbrev pub leaf : ℕ → Bool → Bool → Leaf
leaf frame writes user = record { frame = frame; rights = record { can_write = writes; user = user; exec = false } }

abbrev pub tlb : Translations
tlb = record {
  pairs =
      (5, leaf 7 true false) ∷ (6, leaf 9 false false) ∷ (8, leaf 12 false true) ∷
      (0xFFFFFFFFFFFFF, leaf 11 true false) ∷ [];
  upper = [];
}

-- with WP set, and with WP clear
abbrev pub control : Control
control = record { cr0 = 0x80010033; cr2 = 0; root = 1; cr4 = 0x100020; efer = 0xD00 }

abbrev pub open_control : Control
open_control = record { cr0 = 0x80000033; cr2 = 0; root = 1; cr4 = 0x100020; efer = 0xD00 }

abbrev pub size : ℕ
size = 0x10000

-- a page that has room for eight bytes from each of its first 4,089 addresses on, and none
abbrev pub whole : ℕ → ℕ → KeptPage
whole start base = record { start = start; base = base; room = 4089; spare = 0 }

abbrev pub none : KeptPage
none = record { start = 0; base = 0; room = 0; spare = 0 }

abbrev pub five : KeptPage
five = whole 0x5000 0x7000

abbrev pub six : KeptPage
six = whole 0x6000 0x9000

abbrev pub eight : KeptPage
eight = whole 0x8000 0xC000

abbrev pub last : KeptPage
last = whole 0xFFFFFFFFFFFFF000 0xB000

-- the supervisor reads and writes page 5 and the last one
five_read : IsKeptPage size control 0 Read tlb five
unfolding wp_of smep_of
five_read =
    page_of_leaf size control 0 Read tlb five (leaf 7 true false) refl (omega arith) refl refl
    (omega arith) refl refl

five_written : IsKeptPage size control 0 Write tlb five
unfolding wp_of smep_of
five_written =
    page_of_leaf size control 0 Write tlb five (leaf 7 true false) refl (omega arith) refl refl
    (omega arith) refl refl

last_read : IsKeptPage size control 0 Read tlb last
unfolding wp_of smep_of
last_read =
    page_of_leaf size control 0 Read tlb last (leaf 11 true false) refl (omega arith) refl refl
    (omega arith) refl refl

last_written : IsKeptPage size control 0 Write tlb last
unfolding wp_of smep_of
last_written =
    page_of_leaf size control 0 Write tlb last (leaf 11 true false) refl (omega arith) refl refl
    (omega arith) refl refl

-- it reads page 6 and the user page, and writes page 6 too where WP is clear
six_read : IsKeptPage size control 0 Read tlb six
unfolding wp_of smep_of
six_read =
    page_of_leaf size control 0 Read tlb six (leaf 9 false false) refl (omega arith) refl refl
    (omega arith) refl refl

six_written_without_protection : IsKeptPage size open_control 0 Write tlb six
unfolding wp_of smep_of
six_written_without_protection =
    page_of_leaf size open_control 0 Write tlb six (leaf 9 false false) refl (omega arith) refl refl
    (omega arith) refl refl

eight_read : IsKeptPage size control 0 Read tlb eight
unfolding wp_of smep_of
eight_read =
    page_of_leaf size control 0 Read tlb eight (leaf 12 false true) refl (omega arith) refl refl
    (omega arith) refl refl

-- at CPL 3 the user page is read
eight_read_by_the_user : IsKeptPage size control 3 Read tlb eight
unfolding wp_of smep_of
eight_read_by_the_user =
    page_of_leaf size control 3 Read tlb eight (leaf 12 false true) refl (omega arith) refl refl
    (omega arith) refl refl

-- memory may end with the page's frame
five_at_the_end : IsKeptPage 0x8000 control 0 Read tlb five
unfolding wp_of smep_of
five_at_the_end =
    page_of_leaf 0x8000 control 0 Read tlb five (leaf 7 true false) refl (omega arith) refl refl
    (omega arith) refl refl

-- two pages are kept off, and nothing else: the other two places are of a page that memory doesn't reach
abbrev pub off : List ℕ
off = 0x9000 ∷ 0xD000 ∷ 0xFFFFFFFFFFFFF000 ∷ 0xFFFFFFFFFFFFF000 ∷ []

apart_of : (base : ℕ) → base ≢ 0x9000 → base ≢ 0xD000 → base ≢ 0xFFFFFFFFFFFFF000
    → (i : ℕ) → i < 4 → base ≢ slice_index_or off i 0
apart_of base first second others zero few = first
apart_of base first second others (suc zero) few = second
apart_of base first second others (suc (suc zero)) few = others
apart_of base first second others (suc (suc (suc zero))) few = others
apart_of base first second others (suc (suc (suc (suc i)))) few = absurd (omega (arith, few))

places_of_pages : (i : ℕ) → slice_index_or off i 0 % 4096 ≡ 0
places_of_pages zero = refl
places_of_pages (suc zero) = refl
places_of_pages (suc (suc zero)) = refl
places_of_pages (suc (suc (suc zero))) = refl
places_of_pages (suc (suc (suc (suc i)))) = refl

-- pages in a window for reads, and for writes: none is one of them
none_for_reads : IsReadPage size control 0 tlb none
none_for_reads = record { room = omega arith; kept = λ some. absurd (omega (arith, some)) }

five_for_reads : IsReadPage size control 0 tlb five
five_for_reads = record { room = omega arith; kept = λ some. five_read }

six_for_reads : IsReadPage size control 0 tlb six
six_for_reads = record { room = omega arith; kept = λ some. six_read }

none_for_writes : IsWritePage size control 0 tlb off none
none_for_writes = record {
  room = omega arith;
  kept = λ some. absurd (omega (arith, some));
  read = λ some. absurd (omega (arith, some));
  apart = λ some. absurd (omega (arith, some));
}

five_for_writes : IsWritePage size control 0 tlb off five
five_for_writes = record {
  room = omega arith;
  kept = λ some. five_written;
  read = λ some. five_read;
  apart = λ some. apart_of 0x7000 (λ e. omega (arith, e)) (λ e. omega (arith, e)) (λ e. omega (arith, e));
}

last_for_writes : IsWritePage size control 0 tlb off last
last_for_writes = record {
  room = omega arith;
  kept = λ some. last_written;
  read = λ some. last_read;
  apart = λ some. apart_of 0xB000 (λ e. omega (arith, e)) (λ e. omega (arith, e)) (λ e. omega (arith, e));
}

-- page 5 was read and page 6, and page 5 was written and the last one: each is kept under its number modulo 8
abbrev pub window : Window
window = record {
  read = none ∷ none ∷ none ∷ none ∷ none ∷ five ∷ six ∷ none ∷ [];
  write = none ∷ none ∷ none ∷ none ∷ none ∷ five ∷ none ∷ last ∷ [];
  off = off;
}

all_eight : (P : KeptPage → Type 0) (a b c d e f g h : KeptPage) → P a → P b → P c → P d → P e → P f → P g → P h
    → All P (a ∷ b ∷ c ∷ d ∷ e ∷ f ∷ g ∷ h ∷ [])
all_eight P a b c d e f g h pa pb pc pd pe pf pg ph =
    All-cons P a (b ∷ c ∷ d ∷ e ∷ f ∷ g ∷ h ∷ []) pa
    (All-cons P b (c ∷ d ∷ e ∷ f ∷ g ∷ h ∷ []) pb
    (All-cons P c (d ∷ e ∷ f ∷ g ∷ h ∷ []) pc
    (All-cons P d (e ∷ f ∷ g ∷ h ∷ []) pd
    (All-cons P e (f ∷ g ∷ h ∷ []) pe
    (All-cons P f (g ∷ h ∷ []) pf (All-cons P g (h ∷ []) pg (All-cons P h [] ph (All-nil P))))))))

pub window_is_one : IsWindow size control 0 tlb window
window_is_one = record {
  read =
      all_eight (IsReadPage size control 0 tlb) none none none none none five six none none_for_reads none_for_reads
      none_for_reads none_for_reads none_for_reads five_for_reads six_for_reads none_for_reads;
  write =
      all_eight (IsWritePage size control 0 tlb off) none none none none none five none last none_for_writes
      none_for_writes none_for_writes none_for_writes none_for_writes five_for_writes none_for_writes last_for_writes;
  off = places_of_pages;
}

-- eight bytes that end where the first page kept off begins, and those between the two: they fill three frames
beside_of : (first width : ℕ) → (first + width ≤ 0x9000) ⊎ (0xA000 ≤ first)
    → (first + width ≤ 0xD000) ⊎ (0xE000 ≤ first) → first + width ≤ 0xFFFFFFFFFFFFF000
    → AreBeside off first width
beside_of first width one other below zero few = one
beside_of first width one other below (suc zero) few = other
beside_of first width one other below (suc (suc zero)) few = inl below
beside_of first width one other below (suc (suc (suc zero))) few = inl below
beside_of first width one other below (suc (suc (suc (suc i)))) few = absurd (omega (arith, few))

beside_before : AreBeside off 0x8FF8 8
beside_before = beside_of 0x8FF8 8 (inl (omega arith)) (inl (omega arith)) (omega arith)

beside_between : AreBeside off 0xA000 0x3000
beside_between = beside_of 0xA000 0x3000 (inr (omega arith)) (inl (omega arith)) (omega arith)

beside_behind : AreBeside off 0xE000 0x2000
beside_behind = beside_of 0xE000 0x2000 (inr (omega arith)) (inr (omega arith)) (omega arith)

-- where the frame 9 is kept off page 5 is left, and where its own frame is nothing
five_is_left : IsLeftWithout 0x9000 five five
five_is_left = record { room = omega arith; same = λ some. refl; apart = λ some e. omega (arith, e) }

five_is_dropped : IsLeftWithout 0x7000 five none
five_is_dropped = record {
  room = omega arith;
  same = λ some. absurd (omega (arith, some));
  apart = λ some. absurd (omega (arith, some));
}

-- where nothing was, nothing is left, at whatever place
none_is_left : (place : ℕ) → IsLeftWithout place none none
none_is_left place = record { room = omega arith; same = λ some. refl; apart = λ some. absurd (omega (arith, some)) }

-- eight bytes from the first of page 5 on, seven up to its last, and all of the last page of the upper half
run_at_the_start : IsKeptRun size control 0 Write tlb 0x5000 8 0x7000
run_at_the_start = run_of_page size control 0 Write tlb five 0x5000 8 five_written refl (omega arith)

run_at_the_end : IsKeptRun size control 0 Read tlb 0x5FF9 7 0x7FF9
run_at_the_end = run_of_page size control 0 Read tlb five 0x5FF9 7 five_read refl (omega arith)

run_of_the_last_page : IsKeptRun size control 0 Read tlb 0xFFFFFFFFFFFFF000 4096 0xB000
run_of_the_last_page = run_of_page size control 0 Read tlb last 0xFFFFFFFFFFFFF000 4096 last_read refl (omega arith)
