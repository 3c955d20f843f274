-- What translations that pass a test grant to the accesses of a plan: they go on passing, and each place that is checked
-- for a write is served by one of them, and lies in memory.
use Rattle.std.proofs.Common.{◌≡◌, ℕ, ◌+◌, ◌-◌, ◌*◌, ◌/◌, ◌%◌, ◌^◌, ◌<◌, ◌≤◌, Bool, true, false, List, arith, refl, sym, ◌∙◌}
use Rattle.std.specs.Prelude.{⊤, IfOk, IfSome, Option, None, Some, Result, Ok, Err, if◌then◌else◌}
use Rattle.std.proofs.Math.Nat.{min-le_right, min-eq_left}
use Rattle.std.proofs.lemmas.Bool.{ltb-true, ltb-false, false≢true}
use Rattle.std.proofs.lemmas.Result.{IfOk-at_ok}
use Rattle.nk_bits.specs.declared.access.Access.{Access}
use Rattle.nk_bits.specs.declared.access.Access.TheVariants as access
use Rattle.nk_bits.specs.declared.fault.AccessFault.{AccessFault}
use Rattle.nk_bits.specs.declared.leaf.Target.{Target}
use Rattle.nk_bits.specs.Translations.{Translations}
use Rattle.nk_bits.specs.Claims.{AllPass, Claim, lies_in}
use Rattle.nk_bits.specs.Outcomes.{Outcome, and_then, answered, then_by, then_on}
use Rattle.nk_bits.specs.Accesses.{IsAccessSize, IsTarget, IsWalked, Serves, View, accessed, completed, crosses, first_part, has_canonical_bytes, next_page, reached}
use Rattle.nk_bits.specs.AccessLaws.{AccessLaws}
use Rattle.nk_bits.specs.TranslationLaws.{KeptLaws}
use Rattle.page_walk.specs.declared.plan.Gathered.{Gathered}
use Rattle.page_walk.specs.declared.plan.AccessPlan.{AccessPlan}
use Rattle.page_walk.specs.declared.plan.Origin.{Origin}
use Rattle.page_walk.specs.declared.plan.Origin.TheVariants.{Is, At}
use Rattle.page_walk.specs.declared.plan.Span.{Span}
use Rattle.page_walk.specs.MemoryAccess.{value_at}
use Rattle.page_walk.specs.AccessPlans.{checked, gathered, in_span, with_stack, taken}
use Rattle.x86_regs.specs.declared.effects.Write.{Write}
use Rattle.x86_regs.specs.EffectsKept.{IsGranted}
use Rattle.x86_regs.specs.Effects.{write_at}

-- what is used of the laws on accesses, and on what is kept
pub record KeepingLaws : Type 0 where
  pub access : AccessLaws
  pub kept : KeptLaws

-- the bytes of an operand have addresses of 64 bits, and are 1, 2, 4 or 8
pub record IsSpan (span : Span) : Type 0 where
  pub address : span.va < 2 ^ 64
  pub sized : IsAccessSize span.width

abbrev pub IsSpanOf : Origin → Type 0
IsSpanOf (Is value) = ⊤
IsSpanOf (At span) = IsSpan span

-- so have those of each access of a plan
pub record IsPlanned (plan : AccessPlan) : Type 0 where
  pub both : IfSome plan.both IsSpan
  pub to : IsSpanOf plan.to
  pub from : IsSpanOf plan.from
  pub last : IfSome plan.last IsSpan

pub size_some : (width : ℕ) → IsAccessSize width → 1 ≤ width
size_some width sized = omega arith

pub size_few : (width : ℕ) → IsAccessSize width → width ≤ 8
size_few width sized = omega arith

-- what passes after an outcome, and after the next step from each answer, passes after both
pub kept_on : {F A B : Type 0} (test : Claim) (outcome : Outcome F A) (next : A → Translations → Outcome F B) →
    AllPass test outcome.tlb → ((x : A) → AllPass test (next x outcome.tlb).tlb) → AllPass test (and_then outcome next).tlb
kept_on test outcome next kept later = then_on (AllPass test) outcome.answer outcome.tlb next kept later

-- what holds of the answer of the next step, from each answer, holds of that of both
then_ok : {F A B : Type 0} (Q : B → Type 0) (answer : Result A F) (tlb : Translations)
    (next : A → Translations → Outcome F B) → ((x : A) → answer ≡ Ok x → IfOk (next x tlb).answer Q) →
    IfOk (then_by answer tlb next).answer Q
then_ok Q (Ok x) tlb next later = later x refl
then_ok Q (Err fault) tlb next later = tt

pub ok_on : {F A B : Type 0} (Q : B → Type 0) (outcome : Outcome F A) (next : A → Translations → Outcome F B) →
    ((x : A) → outcome.answer ≡ Ok x → IfOk (next x outcome.tlb).answer Q) → IfOk (and_then outcome next).answer Q
ok_on Q outcome next later = then_ok Q outcome.answer outcome.tlb next later

-- and what holds of the answer of either step holds of that of the one that is chosen
chosen_ok : {F A : Type 0} (Q : A → Type 0) (b : Bool) (one other : Outcome F A) →
    (b ≡ true → IfOk one.answer Q) → (b ≡ false → IfOk other.answer Q) → IfOk (if b then one else other).answer Q
chosen_ok Q true one other first second = first refl
chosen_ok Q false one other first second = second refl

-- an access on one page finds no second place
second_none : (view : View) (access : Access) (tlb : Translations) (va width : ℕ) → crosses va width ≡ false →
    IfOk (accessed view access tlb va width).answer (λ target. target.second ≡ 0)
unfolding accessed completed
second_none view access tlb va width one =
    let Q : Target → Type 0 = λ target. target.second ≡ 0 in
    chosen_ok Q (has_canonical_bytes va width) _ _
    (λ canonical.
    ok_on Q (reached view access tlb va) (completed view access va width)
    (λ first is. chosen_ok Q (crosses va width) _ _ (λ two. absurd (false≢true (sym one ∙ two))) (λ _. refl)))
    (λ _. tt)

-- the place of the byte at this address, in a frame of a memory of so many bytes
record IsNamed (size va place : ℕ) : Type 0 where
  frame : ℕ
  within : 4096 * frame < size
  place_is : place ≡ 4096 * frame + va % 4096

-- the frame ends in a memory of whole frames
frame_ends : (size frame : ℕ) → size % 4096 ≡ 0 → 4096 * frame < size → 4096 * frame + 4096 ≤ size
frame_ends size frame whole within = omega arith

pub next_starts : (va : ℕ) → next_page va % 4096 ≡ 0
unfolding next_page
next_starts va = omega arith

pub part_room : (va width : ℕ) → first_part va width ≤ 4096 - va % 4096
unfolding first_part
part_room va width = min-le_right width (4096 - va % 4096)

pub part_whole : (va width : ℕ) → crosses va width ≡ false → first_part va width ≡ width
unfolding first_part crosses
part_whole va width one =
    let within : va % 4096 + width ≤ 4096 = ltb-false 4096 (va % 4096 + width) one in min-eq_left (omega arith)

-- such places are those of a target
module _ (size va width : ℕ) (target : Target) (whole : size % 4096 ≡ 0) (few : width ≤ 8)
    (first : IsNamed size va target.first) (second : crosses va width ≡ true → IsNamed size (next_page va) target.second)
    (none : crosses va width ≡ false → target.second ≡ 0) where
  second_starts : (b : Bool) → crosses va width ≡ b → target.second % 4096 ≡ 0
  second_starts true two = let it = second two in let start = next_starts va in omega (arith, it.place_is)
  second_starts false one = let is = none one in omega (arith, is)

  second_ends : (b : Bool) → crosses va width ≡ b → first_part va width < width →
      target.second + (width - first_part va width) ≤ size
  second_ends true two less =
      let it = second two in
      let start = next_starts va in
      let ends = frame_ends size it.frame whole it.within in
      omega (arith, it.place_is, few)
  second_ends false one less = absurd (omega (arith, part_whole va width one))

  target_of : IsTarget size va width target
  target_of = record {
    first_agrees = omega (arith, first.place_is);
    second_agrees = second_starts (crosses va width) refl;
    first_fits = omega (arith, first.place_is, frame_ends size first.frame whole first.within, part_room va width);
    second_fits = second_ends (crosses va width) refl;
  }

module _ (laws : KeepingLaws) (view : View) where
  named_at : (size va place : ℕ) → Serves view access.Write (lies_in size) va place → IsNamed size va place
  named_at size va place serves = record {
    frame = serves.leaf.frame;
    within = ltb-true (4096 * serves.leaf.frame) size serves.passes;
    place_is = serves.place_is;
  }

  module _ (test : Claim) (walked : IsWalked view test) where
    span_kept : (access : Access) (span : Span) (tlb : Translations) → IsSpan span → AllPass test tlb →
        AllPass test (accessed view access tlb span.va span.width).tlb
    span_kept access span tlb is pass =
        laws.access.kept view access test tlb span.va span.width walked is.address (size_some span.width is.sized) pass

    pub checked_kept : (span : Option Span) (tlb : Translations) → IfSome span IsSpan → AllPass test tlb →
        AllPass test (checked view span tlb).tlb
    checked_kept None tlb is pass = pass
    checked_kept (Some span) tlb is pass =
        let kept = span_kept access.Write span tlb is pass in
        kept_on test (in_span span (accessed view access.Write tlb span.va span.width))
        (λ target after. answered (Some target) after) kept (λ target. kept)

    pub taken_kept : (m : List ℕ) (source : Origin) (tlb : Translations) → IsSpanOf source → AllPass test tlb →
        AllPass test (taken m view source tlb).tlb
    taken_kept m (Is value) tlb is pass = pass
    taken_kept m (At span) tlb is pass =
        let kept = span_kept access.Read span tlb is pass in
        kept_on test (accessed view access.Read tlb span.va span.width)
        (λ target after. answered (value_at m span.va span.width target) after) kept (λ target. kept)

    pub gathered_kept : (m : List ℕ) (plan : AccessPlan) (tlb : Translations) → IsPlanned plan → AllPass test tlb →
        AllPass test (gathered m view plan tlb).tlb
    unfolding gathered
    gathered_kept m plan tlb is pass =
        let both = checked view plan.both tlb in
        let kept_both = checked_kept plan.both tlb is.both pass in
        let to = taken m view plan.to both.tlb in
        let kept_to = taken_kept m plan.to both.tlb is.to kept_both in
        let from = taken m view plan.from to.tlb in
        let kept_from = taken_kept m plan.from to.tlb is.from kept_to in
        kept_on test both _ kept_both (λ _. kept_on test to _ kept_to (λ _. kept_on test from _ kept_from (λ _. kept_from)))

    module _ (size : ℕ) (whole : size % 4096 ≡ 0) (frames : view.frames ≡ size / 4096) where
      -- what was checked is granted, whatever is written there
      abbrev pub Grants : Option Span → Option Target → Type 0
      Grants None target = ⊤
      Grants (Some span) None = ⊤
      Grants (Some span) (Some target) = (value : ℕ) →
          IsGranted view test size (record { va = span.va; width = span.width; value = value; target = target })

      target_grants : (span : Span) (tlb : Translations) → IsSpan span → AllPass test tlb → AllPass (lies_in size) tlb →
          (target : Target) → (accessed view access.Write tlb span.va span.width).answer ≡ Ok target →
          Grants (Some span) (Some target)
      target_grants span tlb is pass lie target found value =
          let some = size_some span.width is.sized in
          let few = size_few span.width is.sized in
          let named = laws.kept.lies_walked view size frames in
          let serve = laws.access.served view access.Write test tlb span.va span.width walked is.address some pass in
          let serves = IfOk-at_ok _ found serve in
          let serve_within = laws.access.served view access.Write (lies_in size) tlb span.va span.width named is.address some lie in
          let lies = IfOk-at_ok _ found serve_within in
          let first = named_at size span.va target.first lies.0 in
          record {
            sized = is.sized;
            target = target_of size span.va span.width target whole few first
                (λ two. named_at size (next_page span.va) target.second (lies.1 two))
                (λ one. IfOk-at_ok _ found (second_none view access.Write tlb span.va span.width one));
            first = serves.0;
            second = serves.1;
          }

      -- the answer of an access, before its fault is marked
      marked_ok : (span : Span) (answer : Result Target AccessFault) (target : Target) → with_stack span answer ≡ Ok target →
          answer ≡ Ok target
      marked_ok span (Ok place) target is = cc
      marked_ok span (Err fault) target is = cc

      pub checked_grants : (span : Option Span) (tlb : Translations) → IfSome span IsSpan → AllPass test tlb →
          AllPass (lies_in size) tlb → IfOk (checked view span tlb).answer (Grants span)
      checked_grants None tlb is pass lie = tt
      checked_grants (Some span) tlb is pass lie =
          ok_on (Grants (Some span)) (in_span span (accessed view access.Write tlb span.va span.width))
          (λ target after. answered (Some target) after)
          (λ target found. target_grants span tlb is pass lie target (marked_ok span _ target found))

      pub gathered_grants : (m : List ℕ) (plan : AccessPlan) (tlb : Translations) → IsPlanned plan → AllPass test tlb →
          AllPass (lies_in size) tlb → IfOk (gathered m view plan tlb).answer (λ found. Grants plan.both found.both)
      unfolding gathered
      gathered_grants m plan tlb is pass lie =
          let Q : Gathered → Type 0 = λ found. Grants plan.both found.both in
          let both = checked view plan.both tlb in
          let to = taken m view plan.to both.tlb in
          ok_on Q both _ (λ place found. ok_on Q to _ (λ _ _. ok_on Q (taken m view plan.from to.tlb) _
          (λ _ _. IfOk-at_ok (Grants plan.both) found (checked_grants plan.both tlb is.both pass lie))))

      -- the write of an effect, where what was checked is granted
      pub write_grants : (span : Option Span) (target : Option Target) (value : ℕ) (other : Option Write) →
          Grants span target → IfSome other (IsGranted view test size) →
          IfSome (write_at span target value other) (IsGranted view test size)
      write_grants None target value other grants rest = rest
      write_grants (Some span) None value other grants rest = rest
      write_grants (Some span) (Some target) value other grants rest = grants value
