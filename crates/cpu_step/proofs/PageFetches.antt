-- The fetch of an instruction whose fifteen bytes, were there as many, lie on one page: they are those of memory from the
-- first one's place on, and all that its look-up leaves stays.
use Rattle.std.proofs.Common.{◌≡◌, ℕ, zero, suc, ◌+◌, ◌/◌, ◌%◌, ◌^◌, ◌<◌, ◌≤◌, Bool, true, false, ◌&&◌, List, [], ◌++◌, length, refl, ap, sym, subst, ◌∙◌, arith, inl, inr, lit≤}
use Rattle.std.specs.Prelude.{◌-◌, ◌||◌, ◌==◌, Result, Ok, Err, Some, IfOk, if◌then◌else◌}
use Rattle.std.proofs.lemmas.Bool.{cases_Bool, le-ltb}
use Rattle.std.proofs.lemmas.List.Elements.{All-nil}
use Rattle.nk_bits.specs.declared.access.Access.{Access}
use Rattle.nk_bits.specs.declared.access.Access.TheVariants.{Fetch}
use Rattle.nk_bits.specs.declared.leaf.Leaf.{Leaf}
use Rattle.nk_bits.specs.declared.leaf.Target.{Target}
use Rattle.nk_bits.specs.declared.fault.AccessFault.{AccessFault}
use Rattle.nk_bits.specs.declared.fault.AccessFault.TheVariants.{NonCanonical}
use Rattle.nk_bits.specs.AccessRights.{may}
use Rattle.nk_bits.specs.Paging.{page_of, is_canonical}
use Rattle.nk_bits.specs.Translations.{Translations, look}
use Rattle.nk_bits.specs.Outcomes.{Outcome, outcome_of, answered, refused, then_by, and_then}
use Rattle.nk_bits.specs.Accesses.{View, IsKeptTranslation, reached, completed, accessed, crosses, next_page, has_canonical_bytes, address_of, place_in}
use Rattle.phys_mem.specs.Memory.{IsBytes, byte_at}
use Rattle.x86_decode.specs.Reader.{decoded_of}
use Rattle.x86_decode.specs.Spelling.{AreBytes}
use Rattle.x86_regs.specs.declared.faults.Fault.{Fault}
use Rattle.x86_regs.specs.declared.faults.Fault.TheVariants.{General}
use Rattle.x86_regs.specs.Operands.{wrapped}
use Rattle.cpu_step.specs.InstructionFetch.{byte_fetched, decided_by, fetched_from, in_fetch, instruction_at}
use Rattle.cpu_step.specs.DecodingMemo.{place_found}
use Rattle.cpu_step.proofs.LongerCode.{DecodingFacts}
use Rattle.cpu_step.proofs.CodeRuns.{run_fetched, settled_by}
use Rattle.cpu_step.specs.CodeLines.{code_behind}

-- what the law on accesses says of a page that was reached
pub record PageFacts : Type 0 where
  pub held : (view : View) (access : Access) (tlb : Translations) (va : ℕ) (leaf : Leaf) → look tlb.pairs (page_of va) ≡ Some leaf →
      may access leaf.rights view.cpl view.wp view.smep ≡ true → reached view access tlb va ≡ answered (place_in leaf va) tlb
  pub found_again : (view : View) (access : Access) (tlb : Translations) (va : ℕ) →
      IfOk (reached view access tlb va).answer (IsKeptTranslation view access (reached view access tlb va).tlb va)

-- the access of one byte
both_true : (b : Bool) → (b && true) ≡ b
both_true true = refl
both_true false = refl

one_canonical : (va : ℕ) → va < 2 ^ 64 → has_canonical_bytes va 1 ≡ is_canonical va
unfolding has_canonical_bytes
one_canonical va fits =
    let place : address_of va 0 ≡ va = omega (arith, fits) in
    ap (λ x. is_canonical x && true) place ∙ both_true (is_canonical va)

one_page : (va : ℕ) → crosses va 1 ≡ false
unfolding crosses
one_page va = le-ltb 4096 (va % 4096 + 1) (omega arith)

module _ (view : View) (va : ℕ) (fits : va < 2 ^ 64) where
  by_first : (answer : Result ℕ AccessFault) (after : Translations) →
      and_then (then_by answer after (completed view Fetch va 1)) (λ target last. answered target.first last) ≡ outcome_of answer after
  unfolding completed
  by_first (Ok first) after =
      let both : Outcome AccessFault Target = and_then (reached view Fetch after (next_page va)) (λ second last. answered (record { first = first; second = second }) last) in
      let one : Outcome AccessFault Target = answered (record { first = first; second = 0 }) after in
      ap (λ (b : Bool). and_then {F = AccessFault} {A = Target} {B = ℕ} (if b then both else one) (λ target last. answered target.first last)) (one_page va)
  by_first (Err fault) after = refl

  found_there : (tlb : Translations) → is_canonical va ≡ true → place_found view va tlb ≡ reached view Fetch tlb va
  unfolding accessed
  found_there tlb canonical =
      ap (λ b. and_then (if b then and_then (reached view Fetch tlb va) (completed view Fetch va 1) else refused NonCanonical tlb) (λ target last. answered target.first last)) (one_canonical va fits ∙ canonical)
      ∙ by_first (reached view Fetch tlb va).answer (reached view Fetch tlb va).tlb

  not_canonical : (tlb : Translations) → is_canonical va ≡ false → place_found view va tlb ≡ refused NonCanonical tlb
  unfolding accessed
  not_canonical tlb off =
      ap (λ b. and_then (if b then and_then (reached view Fetch tlb va) (completed view Fetch va 1) else refused NonCanonical tlb) (λ target last. answered target.first last)) (one_canonical va fits ∙ off)

answer_apart : (answer : Result ℕ AccessFault) (place : ℕ) (fault : AccessFault) → answer ≡ Err fault → answer ≡ Ok place → ⊥
answer_apart answer place fault off on = cc

-- the page of a place that was found is kept
pub record IsOnPage (view : View) (after : Translations) (va place : ℕ) : Type 0 where
  pub canonical : is_canonical va ≡ true
  pub kept : IsKeptTranslation view Fetch after va place

module _ (facts : PageFacts) (view : View) where
  on_page : (tlb after : Translations) (va place : ℕ) → va < 2 ^ 64 → place_found view va tlb ≡ answered place after → IsOnPage view after va place
  on_page tlb after va place fits found = elim (cases_Bool (is_canonical va)) [
    | inl canonical ↦ record {
      canonical = canonical;
      kept = subst (λ (o : Outcome AccessFault ℕ). IfOk o.answer (IsKeptTranslation view Fetch o.tlb va)) (sym (found_there view va fits tlb canonical) ∙ found) (facts.found_again view Fetch tlb va);
    }
    | inr off ↦ absurd (answer_apart (place_found view va tlb).answer place NonCanonical
        (ap (λ (o : Outcome AccessFault ℕ). o.answer) (not_canonical view va fits tlb off)) (ap (λ (o : Outcome AccessFault ℕ). o.answer) found))
  ]

  -- another byte of a page that is kept
  behind : (after : Translations) (rip place k : ℕ) → rip < 2 ^ 64 → rip % 4096 + k < 4096 → IsOnPage view after rip place →
      place_found view (wrapped (rip + k)) after ≡ answered (place + k) after
  behind after rip place k fits within page =
      let va : ℕ = wrapped (rip + k) in
      let plain : va ≡ rip + k = omega (arith, fits, within) in
      let same : page_of va ≡ page_of rip = omega (arith, fits, within) in
      let upper : va / 2 ^ 47 ≡ rip / 2 ^ 47 = omega (arith, fits, within) in
      let canonical : is_canonical va ≡ true = ap (λ x. (x == 0) || (x == 2 ^ 17 - 1)) upper ∙ page.canonical in
      let there : place_in page.kept.leaf va ≡ place + k = omega (arith, plain, within, page.kept.place_is) in
      found_there view va (omega arith) after canonical
      ∙ (facts.held view Fetch after va page.kept.leaf (ap (look after.pairs) same ∙ page.kept.kept) page.kept.may_access
      ∙ ap (λ x. answered {F = AccessFault} x after) there)

-- the byte at an address, by its place
fetched_there : (m : List ℕ) (view : View) (va : ℕ) (tlb : Translations) → byte_fetched m view va tlb ≡ and_then (in_fetch (place_found view va tlb)) (λ place after. answered (byte_at m place) after)
fetched_there m view va tlb = go (accessed view Fetch tlb va 1).answer (accessed view Fetch tlb va 1).tlb
  where
    go : (answer : Result Target AccessFault) (after : Translations) →
        in_fetch (then_by answer after (λ target last. answered (byte_at m target.first) last))
        ≡ and_then (in_fetch (then_by answer after (λ target last. answered target.first last))) (λ place last. answered (byte_at m place) last)
    go (Ok target) after = refl
    go (Err fault) after = refl

byte_there : (m : List ℕ) (view : View) (va place : ℕ) (tlb after : Translations) → place_found view va tlb ≡ answered place after → byte_fetched m view va tlb ≡ answered (byte_at m place) after
byte_there m view va place tlb after found =
    fetched_there m view va tlb ∙ ap (λ o. and_then (in_fetch o) (λ x last. answered (byte_at m x) last)) found

module _ (facts : PageFacts) (decodings : DecodingFacts) (m : List ℕ) (bytes : IsBytes m) (view : View) (rip : ℕ) where
  -- what bytes decide with those that follow on the page that the first of them is on, and what comes if they are too few
  pub run_on_page : (front : List ℕ) (now after : Translations) (place count left : ℕ) → 0 < count → length front + count ≤ 15 → AreBytes front →
      wrapped (rip + length front) % 4096 + count ≤ 4096 → place_found view (wrapped (rip + length front)) now ≡ answered place after →
      fetched_from (count + left) m view rip front now ≡ settled_by (front ++ code_behind m place 0 count) m view rip after left
  run_on_page front now after place zero left some few are within found = absurd (omega (arith, some))
  run_on_page front now after place (suc n) left some few are within found =
      let base : ℕ = length front in
      let va : ℕ = wrapped (rip + base) in
      let fits : va < 2 ^ 64 = omega arith in
      let page : IsOnPage view after va place = on_page facts view now after va place fits found in
      let more : suc n + left ≡ suc (n + left) = omega arith in
      let first : wrapped (rip + (base + 0)) ≡ va = ap (λ x. wrapped (rip + x)) (omega arith) in
      let start : place ≡ place + 0 = omega arith in
      ap (λ x. fetched_from x m view rip front now) more
      ∙ run_fetched decodings m bytes view rip place base after (suc n)
      (λ k below.
      let there : wrapped (rip + (base + k)) ≡ wrapped (va + k) = omega arith in
      ap (λ x. byte_fetched m view x after) there
      ∙ byte_there m view (wrapped (va + k)) (place + k) after after (behind facts view after va place k fits (omega (arith, within, below)) page))
      n left (n + left) 0 front now refl (omega arith) (omega arith) few are
      (ap (λ x. byte_fetched m view x now) first ∙ (byte_there m view va place now after found ∙ ap (λ x. answered {F = Fault} (byte_at m x) after) start))

  -- the instruction is what the bytes from the place on decide
  pub decided_on_page : (tlb after : Translations) (place : ℕ) → rip < 2 ^ 64 → rip % 4096 ≤ 4080 → place_found view rip tlb ≡ answered place after →
      instruction_at m view rip tlb ≡ decided_by (decoded_of (code_behind m place 0 15)) after (refused (General 0) after)
  unfolding instruction_at
  decided_on_page tlb after place fits within found =
      let here : rip ≡ wrapped (rip + 0) = omega (arith, fits) in
      run_on_page [] tlb after place 15 0 (lit≤ tt) (lit≤ tt) (All-nil (λ b. b < 256)) (omega (arith, fits, within))
      (ap (λ x. place_found view x tlb) (sym here) ∙ found)
