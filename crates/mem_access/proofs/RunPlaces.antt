-- Bytes in a row on one page that is kept.
use Rattle.std.proofs.Common.{◌≡◌, ℕ, ◌+◌, ◌-◌, ◌%◌, ◌^◌, ◌<◌, ◌≤◌, true, false, List, arith, subst}
use Rattle.std.proofs.lemmas.Bool.{le-ltb}
use Rattle.nk_bits.specs.declared.access.Access.{Access}
use Rattle.nk_bits.specs.declared.control.Control.{Control}
use Rattle.nk_bits.specs.Paging.{is_canonical}
use Rattle.nk_bits.specs.Translations.{Translations}
use Rattle.nk_bits.specs.Outcomes.{answered}
use Rattle.nk_bits.specs.Accesses.{accessed, crosses, reached}
use Rattle.page_walk.specs.MemoryAccess.{view_of}
use Rattle.mem_access.specs.KeptRuns.{IsKeptRun}
use Rattle.mem_access.proofs.Frames.{PageFacts, serves_on_page}

run_of_one : (va count offset width : ℕ) → va % 4096 + count ≤ 4096 → offset + width ≤ count → crosses (va + offset) width ≡ false
unfolding crosses
run_of_one va count offset width page fits = le-ltb 4096 ((va + offset) % 4096 + width) (omega (arith, page, fits))

pub run_kept : PageFacts → (m : List ℕ) (access : Access) (control : Control) (cpl : ℕ) (tlb : Translations) (va count place size : ℕ) →
    va < 2 ^ 64 → va % 4096 + count ≤ 4096 → is_canonical va ≡ true → answered place tlb ≡ reached (view_of m control cpl) access tlb va →
    place % 4096 ≡ va % 4096 → place + (4096 - va % 4096) ≤ size → IsKeptRun size control cpl access tlb va count place
run_kept facts m access control cpl tlb va count place size fits page canonical reaches agrees inside = record {
  page = page;
  agrees = agrees;
  inside = omega (arith, page, inside);
  one = λ offset width within. run_of_one va count offset width page within;
  found = λ n offset width some within.
      let base : ℕ = place - va % 4096 in
      let start : base + va % 4096 ≡ place = omega (arith, agrees) in
      let there : base + (va + offset) % 4096 ≡ place + offset = omega (arith, start, page, some, within) in
      subst (λ first. answered (record { first = first; second = 0 }) tlb ≡ accessed (view_of n control cpl) access tlb (va + offset) width) there
      (serves_on_page facts m n access control cpl tlb va place canonical reaches (va + offset) width base start
      (omega (arith, fits, page, some, within)) (omega (arith, page, some, within)) some (run_of_one va count offset width page within));
}
