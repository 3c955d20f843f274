-- From the bytes of an image's code to the whole image.
use Rattle.std.proofs.Common.{◌≡◌, ℕ, zero, suc, ◌+◌, ◌-◌, ◌/◌, ◌<◌, ◌≤◌, inl, inr, List, Option, Some, None, Bool, true, false, refl, ap, sym, ◌∙◌, subst, arith, find}
use Rattle.std.specs.List.{range_with_len}
use Rattle.std.specs.Prelude.{option_map}
use Rattle.std.proofs.lemmas.Bool.{both_ways, cases_lt, cases_Bool}
use Rattle.std.proofs.lemmas.Option.{none-some}
use Rattle.elf_image.specs.Home.{home_end, home_start}
use Rattle.elf_image.specs.Pages.{IsPageList, is_executable, pages_of}
use Rattle.decode_fields.specs.Protected.{is_protected_at}
use Rattle.byte_scanner.specs.ImageCode.{code_at}
use Rattle.byte_scanner.specs.FirstFound.{first_found, found_with, least_from}
use Rattle.byte_scanner.proofs.PageBytes.{code_off}

find_none : (p : ℕ → Bool) (a n : ℕ) → ((x : ℕ) → p x ≡ false) → find p (range_with_len a n) ≡ None
find_none p a zero h = refl
find_none p a (suc n) h = rw (h a) (find_none p (a + 1) n h)

-- where no encoding stands at an address of the code, none is found
pub unfound : (b : List ℕ) → ((a : ℕ) → is_protected_at (code_at b) a ≡ false) → first_found b ≡ None
unfolding first_found
unfound b nowhere =
    ap (option_map (λ at. found_with (code_at b) at at)) (find_none (is_protected_at (code_at b)) home_start (home_end - home_start) nowhere)

find_first : (p : ℕ → Bool) (a n x : ℕ) → a ≤ x → x < a + n → p x ≡ true → ((y : ℕ) → y < x → p y ≡ false) → find p (range_with_len a n) ≡ Some x
find_first p a zero x low high here below = absurd (omega arith)
find_first p a (suc n) x low high here below =
    elim (cases_lt a x) [
      | inl less ↦ rw (below a less) (find_first p (a + 1) n x (omega arith) (omega arith) here below)
      | inr reached ↦ let e : x ≡ a = omega arith in let P : ℕ → Type 0 = λ y. find p (range_with_len y (suc n)) ≡ Some x in subst P e (rw here refl)
    ]

-- where none of a range is found, each fails the test
find_clear : (p : ℕ → Bool) (a n x : ℕ) → find p (range_with_len a n) ≡ None → a ≤ x → x < a + n → p x ≡ false
find_clear p a zero x h low high = absurd (omega arith)
find_clear p a (suc n) x h low high =
    elim (cases_Bool (p a)) [
      | inl on ↦ absurd (none-some a (sym h ∙ rw on refl))
      | inr off ↦ elim (cases_lt a x) [
        | inl less ↦ find_clear p (a + 1) n x (rw off at h) (omega arith) (omega arith)
        | inr reached ↦ let e : a ≡ x = omega arith in ap p (sym e) ∙ off
      ]
    ]

unmapped : {A B : Type 0} (f : A → B) (o : Option A) → option_map f o ≡ None → o ≡ None
unmapped f None h = refl
unmapped f (Some x) h = absurd (none-some (f x) (sym h))

-- no encoding stands at an address whose page may not be executed
off_code : (b : List ℕ) (a : ℕ) → is_executable b (a / 4096) ≡ false → is_protected_at (code_at b) a ≡ false
off_code b a h = rw (code_off b a (a / 4096) refl h) refl

-- an address of the code is on a page of the list, so it lies in the home
in_home : (b : List ℕ) → IsPageList b (pages_of b) → (a : ℕ) → is_executable b (a / 4096) ≡ true → (home_start ≤ a) × (a < home_end)
in_home b pages a on =
    let (i, inside, e) = pages.complete (a / 4096) (pages.executable (a / 4096) on) in
    let home = pages.home i inside in (omega (arith, home.0, e), omega (arith, home.1, e))

-- the address at which an encoding stands, and none below, is that of the first one
pub first_is : (b : List ℕ) → IsPageList b (pages_of b) → (a : ℕ) → is_protected_at (code_at b) a ≡ true → ((y : ℕ) → y < a → is_protected_at (code_at b) y ≡ false) → first_found b ≡ Some (found_with (code_at b) a a)
unfolding first_found
first_is b pages a stands lower =
    elim (cases_Bool (is_executable b (a / 4096))) [
      | inl on ↦
          let home = in_home b pages a on in
          ap (option_map (λ at. found_with (code_at b) at at))
          (find_first (is_protected_at (code_at b)) home_start (home_end - home_start) a home.0 (omega (arith, home.1)) stands lower)
      | inr off ↦ absurd (both_ways (is_protected_at (code_at b) a) (off_code b a off) stands)
    ]

-- where no encoding is found, none stands anywhere in the code
pub clean_everywhere : (b : List ℕ) → IsPageList b (pages_of b) → first_found b ≡ None → (va : ℕ) → is_protected_at (code_at b) va ≡ false
unfolding first_found
clean_everywhere b pages h va =
    elim (cases_Bool (is_executable b (va / 4096))) [
      | inl on ↦
          let home = in_home b pages va on in
          find_clear (is_protected_at (code_at b)) home_start (home_end - home_start) va
          (unmapped (λ at. found_with (code_at b) at at) (least_from (code_at b) home_start (home_end - home_start)) h)
          home.0 (omega (arith, home.1))
      | inr off ↦ off_code b va off
    ]
