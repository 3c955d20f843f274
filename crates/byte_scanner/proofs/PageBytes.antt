-- The bytes of a page that may be executed are the code at its addresses.
use Rattle.std.proofs.Common.{◌≡◌, ℕ, ◌+◌, ◌*◌, ◌/◌, ◌<◌, List, length, get_or, Some, None, slice_get, Bool, true, false, cond, ap, sym, ◌∙◌, arith}
use Rattle.std.proofs.lemmas.Option.{slice_get-get_or}
use Rattle.elf_image.specs.Pages.{IsBytesOfPage, byte_of, is_executable}
use Rattle.byte_scanner.specs.ImageCode.{code_at}
use Rattle.byte_scanner.specs.ScannedCode.{IsCode}

-- the code at an address of a page that may be executed, and of one that may not
pub code_on : (b : List ℕ) (address n : ℕ) → address / 4096 ≡ n → is_executable b n ≡ true → code_at b address ≡ Some (byte_of b address)
code_on b address n e h =
    let f = λ (m : ℕ). cond (is_executable b m) (Some (byte_of b address)) None in
    ap f e ∙ ap (λ (x : Bool). cond x (Some (byte_of b address)) None) h

pub code_off : (b : List ℕ) (address n : ℕ) → address / 4096 ≡ n → is_executable b n ≡ false → code_at b address ≡ None
code_off b address n e h =
    let f = λ (m : ℕ). cond (is_executable b m) (Some (byte_of b address)) None in
    ap f e ∙ ap (λ (x : Bool). cond x (Some (byte_of b address)) None) h

-- what a list has at a place inside it
at_place : (xs : List ℕ) (k x : ℕ) → k < length xs → get_or xs k 0 ≡ x → slice_get xs k ≡ Some x
at_place xs k x inside e = slice_get-get_or xs k 0 inside ∙ ap (λ (y : ℕ). Some y) e

pub page_code : (b : List ℕ) (n : ℕ) (bytes : List ℕ) → IsBytesOfPage b n bytes → is_executable b n ≡ true → IsCode b (4096 * n) bytes
page_code b n bytes page on k inside =
    let small : k < 4096 = omega (arith, page.full) in
    let here : (4096 * n + k) / 4096 ≡ n = omega arith in
    code_on b (4096 * n + k) n here on ∙ sym (at_place bytes k _ inside (page.each k small))
