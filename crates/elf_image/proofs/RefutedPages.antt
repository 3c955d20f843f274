-- What is no list of an image's pages, each named by the sentence that it guards.
use Rattle.std.proofs.Common.{◌≡◌, ◌≢◌, ℕ, ◌/◌, ◌<◌, true, false, List, length, slice_index, sym, ◌∙◌, arith}
use Rattle.std.proofs.lemmas.Bool.{false≢true}
use Rattle.elf_image.specs.Home.{page_size}
use Rattle.elf_image.specs.Pages.{IsPageList, is_executable, is_in_memory, is_page, is_writable}

module _ (b pages : List ℕ) (it : IsPageList b pages) where
  -- a page stands twice, or behind a higher one
  page_twice : (i j : ℕ) → i < j → j < length pages → slice_index pages i ≡ slice_index pages j → ⊥
  page_twice i j before inside same = let rises = it.ascending i j before inside in omega (arith, same, rises)

  falling_pages : (i j : ℕ) → i < j → j < length pages → slice_index pages j < slice_index pages i → ⊥
  falling_pages i j before inside falls = let rises = it.ascending i j before inside in omega (arith, falls, rises)

  -- a page lies below the image's home, or past it
  page_below : (i : ℕ) → i < length pages → slice_index pages i ≡ 0xFFFFFFFF7FFFF → ⊥
  page_below i inside is = let low = (it.home i inside).0 in omega (arith, is, low)

  page_past : (i : ℕ) → i < length pages → slice_index pages i ≡ 0xFFFFFFFFC0000 → ⊥
  page_past i inside is = let high = (it.home i inside).1 in omega (arith, is, high)

  -- a page is listed that no segment touches, and one isn't that some segment touches
  untouched_page : (i : ℕ) → i < length pages → is_page b (slice_index pages i) ≡ false → ⊥
  untouched_page i inside none = false≢true (sym none ∙ it.touched i inside)

  missing_page : (n : ℕ) → is_page b n ≡ true → ((i : ℕ) → i < length pages → slice_index pages i ≢ n) → ⊥
  missing_page n touched none = let (i, inside, is) = it.complete n touched in none i inside is

  -- a page holds no address of a segment's memory, and an address of it lies on no page
  empty_page : (n : ℕ) → is_page b n ≡ true → ((va : ℕ) → va / page_size ≡ n → is_in_memory b va ≡ false) → ⊥
  empty_page n touched none = let (va, on, loaded) = it.holds n touched in false≢true (sym (none va on) ∙ loaded)

  address_on_no_page : (va : ℕ) → is_in_memory b va ≡ true → is_page b (va / page_size) ≡ false → ⊥
  address_on_no_page va loaded none = false≢true (sym none ∙ it.held va loaded)

  -- code that is no page, and code that may be written
  code_on_no_page : (n : ℕ) → is_executable b n ≡ true → is_page b n ≡ false → ⊥
  code_on_no_page n code none = false≢true (sym none ∙ it.executable n code)

  writable_code : (n : ℕ) → is_executable b n ≡ true → is_writable b n ≡ true → ⊥
  writable_code n code written = false≢true (sym (it.unwritable n code) ∙ written)
