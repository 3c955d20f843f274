-- The code in turn from an address on, byte by byte, and how many bytes a decoding finds in front of it.
use Rattle.std.proofs.Common.{◌≡◌, ℕ, zero, suc, ◌+◌, ◌-◌, ◌*◌, ◌/◌, ◌<◌, ◌≤◌, true, List, [], ◌∷◌, ◌++◌, length, length-append, None, Some, refl, sym, ap, ◌∙◌, subst, append_assoc, append-nil, arith}
use Rattle.elf_image.specs.Home.{home_end, page_size}
use Rattle.elf_image.specs.Pages.{IsPageList, is_executable, pages_of}
use Rattle.byte_scanner.specs.ImageCode.{code_at}
use Rattle.x86_decode.specs.declared.instruction.Decoded.{Decoded}
use Rattle.x86_decode.specs.declared.instruction.Decoded.TheVariants.{Whole, Short, TooLong, Unknown}
use Rattle.x86_decode.specs.Decoding.{Decodes}
use Rattle.report_text.specs.CodeBounds.{LiesInHome}
use Rattle.report_text.specs.ListingLines.{byte_before, code_run, found_size}

-- a page that may be executed lies in the home
page_in_home : (b : List ℕ) (n : ℕ) → IsPageList b (pages_of b) → is_executable b n ≡ true
    → page_size * n + page_size ≤ home_end
page_in_home b n pages code =
    let (i, low, is) = pages.complete n (pages.executable n code) in
    let P : ℕ → Type 0 = λ m. page_size * m + page_size ≤ home_end in
    subst P is (pages.home i low).1

pub code_in_home : (b : List ℕ) → IsPageList b (pages_of b) → LiesInHome b
code_in_home b pages address code =
    let within = page_in_home b (address / page_size) pages code in
    omega (arith, within)

-- a run ends where no byte stands, and goes on where one does
run_none : (b : List ℕ) (at most : ℕ) → code_at b at ≡ None → code_run b at most ≡ []
unfolding code_run
run_none b at zero none = refl
run_none b at (suc most) none = ap (λ byte. byte_before byte (code_run b (at + 1) most)) none

run_some : (b : List ℕ) (at most byte : ℕ) → code_at b at ≡ Some byte
    → code_run b at (suc most) ≡ byte ∷ code_run b (at + 1) most
unfolding code_run
run_some b at most byte some = ap (λ byte. byte_before byte (code_run b (at + 1) most)) some

run_full : (b : List ℕ) (at : ℕ) → code_run b at 0 ≡ []
unfolding code_run
run_full b at = refl

-- these bytes stand in front of a run of at most fifteen, and the rest comes behind them
abbrev pub GoesOn : List ℕ → ℕ → List ℕ → Type 0
GoesOn b at run = code_run b at 15 ≡ run ++ code_run b (at + length run) (15 - length run)

pub run_begins : (b : List ℕ) (at : ℕ) (run : List ℕ) → length run ≡ 0 → GoesOn b at run
run_begins b at [] none =
    let here : at ≡ at + 0 = omega arith in
    ap (λ a. code_run b a 15) here
run_begins b at (byte ∷ run) none = absurd (omega (arith, none))

module _ (b : List ℕ) (at : ℕ) (run : List ℕ) (so_far : GoesOn b at run) where
  pub run_on : (byte : ℕ) (more : List ℕ) → length run < 15 → code_at b (at + length run) ≡ Some byte
      → more ≡ run ++ byte ∷ [] → GoesOn b at more
  run_on byte more below some pushed =
      let size = length run in
      let left : 15 - size ≡ suc (15 - (size + 1)) = omega (arith, below) in
      let longer : length more ≡ size + 1 = ap length pushed ∙ length-append run (byte ∷ []) in
      let place : at + size + 1 ≡ at + length more = omega (arith, longer) in
      let rest : 15 - (size + 1) ≡ 15 - length more = omega (arith, longer) in
      so_far ∙ ap (λ n. run ++ code_run b (at + size) n) left
      ∙ ap (λ l. run ++ l) (run_some b (at + size) (15 - (size + 1)) byte some)
      ∙ sym (append_assoc run (byte ∷ []) (code_run b (at + size + 1) (15 - (size + 1))))
      ∙ (λ i. sym pushed i ++ code_run b (place i) (rest i))

  pub run_stops : code_at b (at + length run) ≡ None → run ≡ code_run b at 15
  run_stops none =
      sym (so_far ∙ ap (λ l. run ++ l) (run_none b (at + length run) (15 - length run) none) ∙ append-nil run)

  pub run_ends : 15 ≤ length run → run ≡ code_run b at 15
  run_ends full =
      let left : 15 - length run ≡ 0 = omega (arith, full) in
      sym (so_far ∙ ap (λ n. run ++ code_run b (at + length run) n) left
      ∙ ap (λ l. run ++ l) (run_full b (at + length run)) ∙ append-nil run)

-- what is found is among the bytes
pub found_within : (bytes : List ℕ) (found : Decoded) → Decodes bytes found → 0 < length bytes
    → found_size found ≤ length bytes
found_within bytes (Whole instr size) right some = right.within
found_within bytes Short right some = some
found_within bytes TooLong right some = some
found_within bytes Unknown right some = some
