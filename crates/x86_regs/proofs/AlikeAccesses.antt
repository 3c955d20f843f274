-- What an access finds over two memories that are alike: the same places, and the same bytes there.
use Rattle.std.proofs.Common.{◌≡◌, ℕ, zero, suc, ◌+◌, ◌-◌, ◌*◌, ◌/◌, ◌%◌, ◌^◌, ◌<◌, ◌≤◌, Bool, true, false, List, length, arith, refl, sym, ap, ◌∙◌}
use Rattle.std.specs.Prelude.{IfSome, Option, None, Some, Result, Ok, Err, if◌then◌else◌}
use Rattle.std.proofs.lemmas.Result.{IfOk-at_ok}
use Rattle.nk_bits.specs.declared.access.Access.{Access}
use Rattle.nk_bits.specs.declared.access.Access.TheVariants.{Read, Write, Fetch}
use Rattle.nk_bits.specs.declared.control.Control.{Control}
use Rattle.nk_bits.specs.declared.fault.AccessFault.{AccessFault}
use Rattle.nk_bits.specs.declared.leaf.Leaf.{Leaf}
use Rattle.nk_bits.specs.declared.leaf.Target.{Target}
use Rattle.nk_bits.specs.Paging.{page_of, walk, walk_below}
use Rattle.nk_bits.specs.UpperEntries.{walk_by}
use Rattle.nk_bits.specs.Translations.{Translations, fill_walked, look, or_walked}
use Rattle.nk_bits.specs.Claims.{AllPass, Claim}
use Rattle.nk_bits.specs.Outcomes.{Outcome, and_then, answered, outcome_of, then_by}
use Rattle.nk_bits.specs.Accesses.{IsAccessSize, IsWalked, Serves, View, accessed, completed, crosses, first_part, has_canonical_bytes, judged, kept_after, next_page, reached}
use Rattle.nk_bits.specs.AccessLaws.{SpanLaws}
use Rattle.phys_mem.specs.Memory.{byte_at, entry_in, number_at}
use Rattle.page_walk.specs.declared.plan.AccessPlan.{AccessPlan}
use Rattle.page_walk.specs.declared.plan.Origin.{Origin}
use Rattle.page_walk.specs.declared.plan.Origin.TheVariants.{Is, At}
use Rattle.page_walk.specs.declared.plan.Span.{Span}
use Rattle.page_walk.specs.MemoryAccess.{fetched, loaded, value_at, view_of}
use Rattle.page_walk.specs.AccessPlans.{checked, gathered, in_span, taken}
use Rattle.x86_regs.specs.AlikeMemories.{AreAlike}
use Rattle.x86_regs.proofs.GrantedAccesses.{IsPlanned, IsSpan, IsSpanOf, KeepingLaws, checked_kept, next_starts, part_room, part_whole, size_few, size_some, taken_kept}

-- what is used of the laws on accesses, on what is kept, and on spans
pub record SameLaws : Type 0 where
  pub keeping : KeepingLaws
  pub span : SpanLaws

-- two steps are the same where the first ones are, and the next ones from each answer
then_same : {F A B : Type 0} (answer : Result A F) (tlb : Translations) (next later : A → Translations → Outcome F B) →
    ((x : A) → answer ≡ Ok x → next x tlb ≡ later x tlb) → then_by answer tlb next ≡ then_by answer tlb later
then_same (Ok x) tlb next later same = same x refl
then_same (Err fault) tlb next later same = refl

pub same_on : {F A B : Type 0} (one other : Outcome F A) (next later : A → Translations → Outcome F B) →
    one ≡ other → ((x : A) → one.answer ≡ Ok x → next x one.tlb ≡ later x one.tlb) →
    and_then one next ≡ and_then other later
same_on {F} {A} one other next later same step =
    then_same one.answer one.tlb next later step ∙ ap (λ (o : Outcome F A). and_then o later) same

-- a choice is the same where what is chosen is
chosen_same : {A : Type 0} (b : Bool) (one other last : A) → (b ≡ true → one ≡ other) →
    (if b then one else last) ≡ (if b then other else last)
chosen_same true one other last same = same refl
chosen_same false one other last same = refl

-- the same bytes spell the same number
numbers_same : (m n : List ℕ) (count p : ℕ) → ((q : ℕ) → p ≤ q → q < p + count → byte_at m q ≡ byte_at n q) →
    number_at m count p ≡ number_at n count p
unfolding number_at
numbers_same m n zero p same = refl
numbers_same m n (suc count) p same =
    let first = same p (omega arith) (omega arith) in
    let rest = numbers_same m n count (p + 1) (λ q above below. same q (omega (arith, above)) (omega (arith, below))) in
    ap (λ x. x + 256 * number_at m count (p + 1)) first ∙ ap (λ x. byte_at n p + 256 * x) rest

module _ (laws : SameLaws) (test : Claim) (control : Control) (cpl : ℕ) (m n : List ℕ)
    (alike : AreAlike test control.root m n) (walked : IsWalked (view_of m control cpl) test) where
  abbrev here : View
  here = view_of m control cpl

  abbrev there : View
  there = view_of n control cpl

  pub frames_same : length m / 4096 ≡ length n / 4096
  frames_same = ap (λ size. size / 4096) alike.size

  walks_same : (tlb : Translations) (page : ℕ) → AllPass test tlb →
      walk_by (entry_in m) (length m / 4096) control.root tlb.upper page
      ≡ walk_by (entry_in n) (length n / 4096) control.root tlb.upper page
  walks_same tlb page pass =
      laws.keeping.kept.walk_by_same (entry_in m) (entry_in n) (length m / 4096) control.root control.root page test tlb pass
      (λ entry passes serves_page.
      alike.below entry page passes serves_page
      ∙ ap (λ frames. walk_below (entry_in n) frames page entry.0 entry.2) (sym frames_same))
      (alike.walks page ∙ ap (λ frames. walk (entry_in n) frames control.root page) (sym frames_same))
      ∙ ap (λ frames. walk_by (entry_in n) frames control.root tlb.upper page) frames_same

  judged_same : (access : Access) (va : ℕ) (found : Option Leaf) →
      judged here access va found ≡ judged there access va found
  judged_same access va None = refl
  judged_same access va (Some leaf) = refl

  reached_same : (access : Access) (tlb : Translations) (va : ℕ) → AllPass test tlb →
      reached here access tlb va ≡ reached there access tlb va
  unfolding reached
  reached_same access tlb va pass =
      let page = page_of va in
      let kept = look tlb.pairs page in
      let other = walk_by (entry_in n) (length n / 4096) control.root tlb.upper page in
      ap (λ found.
      let judgement = judged here access va (or_walked kept found) in
      outcome_of judgement (kept_after judgement (fill_walked tlb page kept found) va)) (walks_same tlb page pass)
      ∙ ap (λ (judgement : Result ℕ AccessFault).
      outcome_of judgement (kept_after judgement (fill_walked tlb page kept other) va))
      (judged_same access va (or_walked kept other))

  completed_same : (access : Access) (va width first : ℕ) (tlb : Translations) → AllPass test tlb →
      completed here access va width first tlb ≡ completed there access va width first tlb
  unfolding completed
  completed_same access va width first tlb pass =
      chosen_same (crosses va width) _ _ _
      (λ two.
      ap (λ (o : Outcome AccessFault ℕ).
      and_then o (λ second after.
      answered {F = AccessFault} {A = Target} (record { first = first; second = second }) after))
      (reached_same access tlb (next_page va) pass))

  pub accessed_same : (access : Access) (tlb : Translations) (va width : ℕ) → va < 2 ^ 64 → 1 ≤ width →
      AllPass test tlb → accessed here access tlb va width ≡ accessed there access tlb va width
  unfolding accessed
  accessed_same access tlb va width fits some pass =
      chosen_same (has_canonical_bytes va width) _ _ _
      (λ canonical.
      let kept = laws.keeping.access.reached_kept here access test tlb va walked (laws.span.first va width fits some canonical) pass in
      same_on (reached here access tlb va) (reached there access tlb va) (completed here access va width)
      (completed there access va width) (reached_same access tlb va pass)
      (λ first _. completed_same access va width first (reached here access tlb va).tlb kept))

  -- the byte at a place behind one that is served, on the same page
  byte_same : (access : Access) (va place q : ℕ) → Serves here access test va place → place ≤ q →
      q < place + (4096 - va % 4096) → byte_at m q ≡ byte_at n q
  byte_same access va place q serves above below =
      let start : ℕ = 4096 * serves.leaf.frame in
      let is : q ≡ start + (q - start) = omega (arith, serves.place_is, above) in
      let within : q - start < 4096 = omega (arith, serves.place_is, above, below) in
      ap (byte_at m) is
      ∙ (alike.bytes (page_of va, serves.leaf) (q - start) serves.passes within ∙ sym (ap (byte_at n) is))

  second_same : (va width : ℕ) (target : Target) → width ≤ 8 →
      (crosses va width ≡ true → Serves here Read test (next_page va) target.second) → (b : Bool) →
      crosses va width ≡ b → (q : ℕ) → target.second ≤ q → q < target.second + (width - first_part va width) →
      byte_at m q ≡ byte_at n q
  second_same va width target few second true two q above below =
      let start = next_starts va in
      byte_same Read (next_page va) target.second q (second two) above (omega (arith, below, few, start))
  second_same va width target few second false one q above below =
      absurd (omega (arith, above, below, part_whole va width one))

  value_same : (va width : ℕ) (target : Target) → width ≤ 8 → Serves here Read test va target.first →
      (crosses va width ≡ true → Serves here Read test (next_page va) target.second) →
      value_at m va width target ≡ value_at n va width target
  value_same va width target few first second =
      let part : ℕ = first_part va width in
      let low = numbers_same m n part target.first
      (λ q above below. byte_same Read va target.first q first above (omega (arith, below, part_room va width))) in
      let high = numbers_same m n (width - part) target.second
      (second_same va width target few second (crosses va width) refl) in
      ap (λ x. x + 256 ^ part * number_at m (width - part) target.second) low
      ∙ ap (λ x. number_at n part target.first + 256 ^ part * x) high

  pub loaded_same : (tlb : Translations) (va width : ℕ) → va < 2 ^ 64 → IsAccessSize width → AllPass test tlb →
      loaded m here tlb va width ≡ loaded n there tlb va width
  loaded_same tlb va width fits sized pass =
      let some = size_some width sized in
      let one = accessed here Read tlb va width in
      same_on one (accessed there Read tlb va width) (λ target after. answered (value_at m va width target) after)
      (λ target after. answered (value_at n va width target) after) (accessed_same Read tlb va width fits some pass)
      (λ target found.
      let serve = laws.keeping.access.served here Read test tlb va width walked fits some pass in
      let serves = IfOk-at_ok _ found serve in
      ap (λ x. answered {F = AccessFault} x one.tlb)
      (value_same va width target (size_few width sized) serves.0 serves.1))

  pub fetched_same : (tlb : Translations) (va : ℕ) → va < 2 ^ 64 → AllPass test tlb →
      fetched m here tlb va ≡ fetched n there tlb va
  fetched_same tlb va fits pass =
      let one = accessed here Fetch tlb va 1 in
      same_on one (accessed there Fetch tlb va 1) (λ target after. answered (byte_at m target.first) after)
      (λ target after. answered (byte_at n target.first) after) (accessed_same Fetch tlb va 1 fits (omega arith) pass)
      (λ target found.
      let serve = laws.keeping.access.served here Fetch test tlb va 1 walked fits (omega arith) pass in
      let serves = IfOk-at_ok _ found serve in
      ap (λ x. answered {F = AccessFault} x one.tlb)
      (byte_same Fetch va target.first target.first serves.0 (omega arith) (omega arith)))

  pub checked_same : (span : Option Span) (tlb : Translations) → IfSome span IsSpan → AllPass test tlb →
      checked here span tlb ≡ checked there span tlb
  checked_same None tlb is pass = refl
  checked_same (Some span) tlb is pass =
      ap (λ (o : Outcome AccessFault Target). and_then (in_span span o) (λ target after. answered (Some target) after))
      (accessed_same Write tlb span.va span.width is.address (size_some span.width is.sized) pass)

  pub taken_same : (source : Origin) (tlb : Translations) → IsSpanOf source → AllPass test tlb →
      taken m here source tlb ≡ taken n there source tlb
  taken_same (Is value) tlb is pass = refl
  taken_same (At span) tlb is pass =
      ap (λ (o : Outcome AccessFault ℕ). in_span span o) (loaded_same tlb span.va span.width is.address is.sized pass)

  pub gathered_same : (plan : AccessPlan) (tlb : Translations) → IsPlanned plan → AllPass test tlb →
      gathered m here plan tlb ≡ gathered n there plan tlb
  unfolding gathered
  gathered_same plan tlb is pass =
      let both = checked here plan.both tlb in
      let kept_both = checked_kept laws.keeping here test walked plan.both tlb is.both pass in
      let to = taken m here plan.to both.tlb in
      let kept_to = taken_kept laws.keeping here test walked m plan.to both.tlb is.to kept_both in
      let from = taken m here plan.from to.tlb in
      same_on both (checked there plan.both tlb) _ _ (checked_same plan.both tlb is.both pass)
      (λ _ _. same_on to (taken n there plan.to both.tlb) _ _ (taken_same plan.to both.tlb is.to kept_both)
      (λ _ _. same_on from (taken n there plan.from to.tlb) _ _ (taken_same plan.from to.tlb is.from kept_to)
      (λ _ _. refl)))
