-- A translation that is kept and serves an access makes a page that is kept, and a page that is kept runs of bytes.
use Rattle.std.proofs.Common.{◌≡◌, ℕ, ◌+◌, ◌-◌, ◌*◌, ◌/◌, ◌%◌, ◌^◌, ◌<◌, ◌≤◌, true, false, arith, sym, ap, subst, ◌∙◌}
use Rattle.std.specs.Prelude.{◌||◌, ◌==◌, Some, Ok, Err, if◌then◌else◌}
use Rattle.std.proofs.lemmas.Bool.{le-ltb}
use Rattle.nk_bits.specs.declared.access.Access.{Access}
use Rattle.nk_bits.specs.declared.control.Control.{Control}
use Rattle.nk_bits.specs.declared.fault.AccessFault.{AccessFault}
use Rattle.nk_bits.specs.declared.fault.AccessFault.TheVariants.{Page}
use Rattle.nk_bits.specs.declared.leaf.Leaf.{Leaf}
use Rattle.nk_bits.specs.AccessRights.{may}
use Rattle.nk_bits.specs.Accesses.{View, accessed, crosses, fault_code, judged, kept_after, place_in, reached, smep_of, wp_of}
use Rattle.nk_bits.specs.Outcomes.{answered}
use Rattle.nk_bits.specs.Paging.{is_canonical, page_of}
use Rattle.nk_bits.specs.Translations.{Translations, fill_walked, look, or_walked}
use Rattle.nk_bits.specs.UpperEntries.{walk_by}
use Rattle.page_walk.specs.MemoryAccess.{view_of}
use Rattle.mem_access.specs.declared.window.KeptPage.{KeptPage}
use Rattle.mem_access.specs.KeptRuns.{IsKeptRun}
use Rattle.mem_access.specs.Windows.{IsKeptPage}
use Rattle.mem_access.proofs.Canonical.{first_tells}
use Rattle.mem_access.proofs.Steps.{found_alone}

-- the byte of an address whose page's translation is kept and serves the access is found, and nothing changes
pub held_there : (view : View) (access : Access) (tlb : Translations) (va : ℕ) (leaf : Leaf)
    → look tlb.pairs (page_of va) ≡ Some leaf → may access leaf.rights view.cpl view.wp view.smep ≡ true
    → reached view access tlb va ≡ answered (place_in leaf va) tlb
unfolding reached
held_there view access tlb va leaf kept serves =
    ap (λ found.
    let walked = walk_by view.entries view.frames view.root tlb.upper (page_of va) in
    let judgement = judged view access va (or_walked found walked) in
    record { answer = judgement; tlb = kept_after judgement (fill_walked tlb (page_of va) found walked) va }) kept
    ∙ ap (λ b.
    let judgement = if b then Ok (place_in leaf va) else Err (Page (fault_code access view.cpl true) va) in
    record { answer = judgement; tlb = kept_after judgement tlb va }) serves

-- no bytes of a row on one page cross to the next one
none_crosses : (va count : ℕ) → va % 4096 + count ≤ 4096 → (offset width : ℕ) → offset + width ≤ count
    → crosses (va + offset) width ≡ false
unfolding crosses
none_crosses va count fits offset width within =
    le-ltb 4096 ((va + offset) % 4096 + width) (omega (arith, fits, within))

module _ (size : ℕ) (control : Control) (cpl : ℕ) (access : Access) (tlb : Translations) (page : KeptPage) where
  -- a page at the start of the frame that its translation names
  pub page_of_leaf : (leaf : Leaf) → page.start % 4096 ≡ 0 → page.start < 2 ^ 64 → is_canonical page.start ≡ true
      → page.base ≡ 4096 * leaf.frame → page.base + 4096 ≤ size → look tlb.pairs (page_of page.start) ≡ Some leaf
      → may access leaf.rights cpl (wp_of control.cr0) (smep_of control.cr4) ≡ true
      → IsKeptPage size control cpl access tlb page
  page_of_leaf leaf start fits canonical base inside kept serves = record {
    start = start;
    base = omega (arith, base);
    inside = inside;
    found = λ m at width same some one.
        let upper : at / 2 ^ 47 ≡ page.start / 2 ^ 47 = omega (arith, same) in
        let on : is_canonical at ≡ true = ap (λ x. (x == 0) || (x == 2 ^ 17 - 1)) upper ∙ canonical in
        let there : place_in leaf at ≡ page.base + at % 4096 = omega (arith, base) in
        found_alone (view_of m control cpl) access tlb at width one
        (first_tells at width (omega (arith, same, fits)) (omega (arith, some)) one) (page.base + at % 4096) on
        (sym (held_there (view_of m control cpl) access tlb at leaf (ap (look tlb.pairs) same ∙ kept) serves
        ∙ ap (λ x. answered {F = AccessFault} x tlb) there));
  }

  -- bytes in a row on a page that is kept are a run
  pub run_of_page : (va count : ℕ) → IsKeptPage size control cpl access tlb page → va / 4096 ≡ page.start / 4096
      → va % 4096 + count ≤ 4096 → IsKeptRun size control cpl access tlb va count (page.base + va % 4096)
  run_of_page va count it on fits =
      let base = it.base in let inside = it.inside in
      record {
        page = fits;
        agrees = omega (arith, base);
        inside = omega (arith, inside, fits);
        one = none_crosses va count fits;
        found = λ m offset width some within.
            let same : (va + offset) / 4096 ≡ page.start / 4096 = omega (arith, on, fits, some, within) in
            let there : page.base + (va + offset) % 4096 ≡ page.base + va % 4096 + offset =
            omega (arith, fits, some, within) in
            subst (λ first. answered (record { first = first; second = 0 }) tlb
            ≡ accessed (view_of m control cpl) access tlb (va + offset) width) there
            (it.found m (va + offset) width same some (none_crosses va count fits offset width within));
      }
