-- How the addresses at which instructions began are gathered: each stays among them, and the new one is.
use Rattle.std.proofs.Common.{◌≡◌, ◌⊎◌, ℕ, zero, suc, ◌+◌, ◌<◌, ◌≤◌, ◌/◌, Bool, true, false, List, [], ◌∷◌, ◌++◌, length, All, Option, None, Some, Result, Ok, Err, refl, sym, ap, subst, ◌∙◌, arith, inl, inr, ◌==◌, ◌||◌}
use Rattle.std.specs.Prelude.{◌-◌, codes, is_err, OnOk, OnErr}
use Rattle.std.specs.List.{list_any}
use Rattle.std.specs.List.Sorted.{IsStrictlySortedBy}
use Rattle.std.specs.BTreeSet.{insert_key}
use Rattle.std.specs.Ordering.{match_ordering, nat_cmp}
use Rattle.std.specs.declared.cmp.Ordering.{Ordering}
use Rattle.std.specs.declared.cmp.Ordering.TheVariants.{Less, Equal, Greater}
use Rattle.std.proofs.lemmas.Bool.{cases_lt, eq-eqb, or_left, or_right, false≢true}
use Rattle.std.proofs.lemmas.List.{append-nil, append_assoc}
use Rattle.std.proofs.lemmas.List.Elements.{All-nil, All-weaker}
use Rattle.std.proofs.lemmas.Map.Lookups.{exact_unsigned}
use Rattle.std.proofs.lemmas.Map.Views.{All-insert_key}
use Rattle.irq_plan.specs.declared.event.Event.{Event}
use Rattle.elf_image.specs.Pages.{is_executable}
use Rattle.cpu_step.specs.declared.stepped.Stepped.{Stepped}
use Rattle.cpu_step.specs.declared.stepped.Stepped.TheVariants as stepped
use Rattle.gate_state.specs.declared.moves.Move.{Move}
use Rattle.gate_state.specs.declared.moves.Move.TheVariants as move
use Rattle.gate_state.specs.declared.seen.Step.TheVariants as step
use Rattle.gate_state.specs.MachineStates.{MachineState, Opening}
use Rattle.gate_state.specs.MachineSteps.{move_of, next, shown_by_turn, state, step_by, turn_of}
use Rattle.gate_state.specs.QuietSteps.{AreQuietSteps}
use Rattle.gate_state.specs.StepsTaken.{CountsSteps}
use Rattle.gate_state.specs.WholeMachine.{WholeState, stepped_whole}
use Rattle.report_text.specs.RunLines.{hex_16}
use Rattle.step_trace.specs.AddressesRan.{AreRan, HasBegun, begins_at, begun_by, begun_in, ran_text}
use Rattle.step_trace.specs.RanSteps.{AreNoted, begun_of, with_begun, with_code}
use Rattle.step_trace.specs.StepsLeft.{steps_left}
use Rattle.step_trace.specs.Traces.{is_there}
use Rattle.step_trace.proofs.FirstStates.{goes_there, turns_below}
use Rattle.step_trace.proofs.NearerSteps.{nearer}

-- an address stays among others, and is among them where it is put
kept_by : (p : ℕ → Bool) (k x : ℕ) (xs : List ℕ) (o : Ordering)
    → (list_any p xs ≡ true → list_any p (insert_key nat_cmp xs k) ≡ true)
    → (b : Bool) → p x ≡ b → (b || list_any p xs) ≡ true
    → list_any p (match_ordering o (k ∷ x ∷ xs) (x ∷ xs) (x ∷ insert_key nat_cmp xs k)) ≡ true
kept_by p k x xs Less later b is there = or_right (p k) _ (ap (λ (c : Bool). c || list_any p xs) is ∙ there)
kept_by p k x xs Equal later b is there = ap (λ (c : Bool). c || list_any p xs) is ∙ there
kept_by p k x xs Greater later true is there = or_left (p x) _ is
kept_by p k x xs Greater later false is there = or_right (p x) _ (later there)

kept_among : (p : ℕ → Bool) (k : ℕ) (xs : List ℕ) → list_any p xs ≡ true → list_any p (insert_key nat_cmp xs k) ≡ true
kept_among p k [] there = absurd (false≢true there)
kept_among p k (x ∷ xs) there = kept_by p k x xs (nat_cmp k x) (kept_among p k xs) (p x) refl there

found_by : (k x : ℕ) (xs : List ℕ) (o : Ordering) → nat_cmp k x ≡ o
    → list_any (λ y. k == y) (insert_key nat_cmp xs k) ≡ true
    → list_any (λ y. k == y) (match_ordering o (k ∷ x ∷ xs) (x ∷ xs) (x ∷ insert_key nat_cmp xs k)) ≡ true
found_by k x xs Less is later = or_left (k == k) _ (eq-eqb k k refl)
found_by k x xs Equal is later = or_left (k == x) _ (eq-eqb k x (exact_unsigned k x is))
found_by k x xs Greater is later = or_right (k == x) _ later

found_among : (k : ℕ) (xs : List ℕ) → list_any (λ y. k == y) (insert_key nat_cmp xs k) ≡ true
found_among k [] = or_left (k == k) _ (eq-eqb k k refl)
found_among k (x ∷ xs) = found_by k x xs (nat_cmp k x) refl (found_among k xs)

-- of no steps there are none
pub none_noted : (image : List ℕ) (plan : List Event) (first : MachineState) (addresses : List ℕ) → addresses ≡ []
    → AreNoted image 0 plan first addresses
none_noted image plan first addresses none =
    let P : ℕ → Type 0 = λ address. is_executable image (address / 4096) ≡ true in
    record {
      are_code = subst (All P) (sym none) (All-nil P);
      are_begun = subst (All (HasBegun 0 plan first)) (sym none) (All-nil (HasBegun 0 plan first));
      all = λ step address within begun code. absurd (omega (arith, within));
    }

-- one of the first steps is one of the first of more
begun_later : (steps : ℕ) (plan : List Event) (first : MachineState) (address : ℕ) → HasBegun steps plan first address
    → HasBegun (suc steps) plan first address
begun_later steps plan first address it = record { step = it.step; within = omega (arith, it.within); begun = it.begun }

-- what is some number is that number alone
same_number : (a b : ℕ) → Some a ≡ Some b → a ≡ b
same_number a b is = cc

module _ (image : List ℕ) (plan : List Event) (first : MachineState) (steps : ℕ) (addresses : List ℕ)
    (noted : AreNoted image steps plan first addresses) where
  later_begun : All (HasBegun (suc steps) plan first) addresses
  later_begun = All-weaker (HasBegun steps plan first) (HasBegun (suc steps) plan first) (begun_later steps plan first) addresses noted.are_begun

  -- where the old ones stay and that of the last step is there, all are
  all_of : (new : List ℕ)
      → ((address : ℕ) → list_any (λ x. address == x) addresses ≡ true → list_any (λ x. address == x) new ≡ true)
      → ((address : ℕ) → begun_in plan (state plan first steps) ≡ Some address → is_executable image (address / 4096) ≡ true
      → list_any (λ x. address == x) new ≡ true)
      → (step address : ℕ) → (step < steps) ⊎ (steps ≤ step) → step < suc steps
      → begun_in plan (state plan first step) ≡ Some address → is_executable image (address / 4096) ≡ true
      → list_any (λ x. address == x) new ≡ true
  all_of new stay last step address (inl before) within begun code = stay address (noted.all step address before begun code)
  all_of new stay last step address (inr behind) within begun code =
      let same : step ≡ steps = omega (arith, behind, within) in
      last address (subst (λ (k : ℕ). begun_in plan (state plan first k) ≡ Some address) same begun) code

  -- a step that begins an instruction in the image's code, or elsewhere, or none
  with_more : (is_code : Bool) (address : ℕ) → is_executable image (address / 4096) ≡ is_code
      → begun_in plan (state plan first steps) ≡ Some address
      → AreNoted image (suc steps) plan first (with_code is_code address addresses)
  with_more true address is begun = record {
    are_code = All-insert_key nat_cmp address (λ a. is_executable image (a / 4096) ≡ true) addresses noted.are_code is;
    are_begun = All-insert_key nat_cmp address (HasBegun (suc steps) plan first) addresses later_begun
        (record { step = steps; within = omega arith; begun = begun });
    all = λ step other within was code.
        all_of (insert_key nat_cmp addresses address) (λ it there. kept_among (λ x. it == x) address addresses there)
        (λ it it_began it_is_code.
        subst (λ (a : ℕ). list_any (λ x. a == x) (insert_key nat_cmp addresses address) ≡ true)
        (same_number address it (sym begun ∙ it_began)) (found_among address addresses))
        step other (cases_lt step steps) within was code;
  }
  with_more false address is begun = record {
    are_code = noted.are_code;
    are_begun = later_begun;
    all = λ step other within was code.
        all_of addresses (λ it there. there)
        (λ it it_began it_is_code.
        absurd (false≢true (sym is ∙ (ap (λ (a : ℕ). is_executable image (a / 4096)) (same_number address it (sym begun ∙ it_began)) ∙ it_is_code))))
        step other (cases_lt step steps) within was code;
  }

  pub next_noted : (begun : Option ℕ) → begun_in plan (state plan first steps) ≡ begun
      → AreNoted image (suc steps) plan first (with_begun image begun addresses)
  next_noted (Some address) is = with_more (is_executable image (address / 4096)) address refl is
  next_noted None is = record {
    are_code = noted.are_code;
    are_begun = later_begun;
    all = λ step other within was code.
        all_of addresses (λ it there. there) (λ it it_began it_is_code. let no = sym is ∙ it_began in cc)
        step other (cases_lt step steps) within was code;
  }

-- what a step shows tells whether it was a turn
shown_begun : (it : Stepped) (begins : Option ℕ) → begun_of (step.Seen (shown_by_turn it)) begins ≡ begins
shown_begun stepped.Ran begins = refl
shown_begun (stepped.Console byte) begins = refl
shown_begun (stepped.Delivered it) begins = refl
shown_begun stepped.Shutdown begins = refl

pub begun_is : (m : Move) (s : MachineState) → begun_of (step_by m s) (begins_at s.processor) ≡ begun_by m s.processor
begun_is move.Serve s = refl
begun_is (move.Take what) s = refl
begun_is move.Turn s = shown_begun (turn_of s).stepped (begins_at s.processor)
begun_is move.Rest s = refl

-- at most one quick turn, by how many turns were taken
pub one_hurried : (plan : List Event) (o : Opening) (s after : MachineState) (n : ℕ) → AreQuietSteps n o plan s after
    → after.turns ≡ s.turns + n → s.turns < after.turns → after.turns ≤ s.turns + 1
    → (after ≡ next plan s) × (move_of plan s ≡ move.Turn)
one_hurried plan o s after zero quiet turns more most = absurd (omega (arith, turns, more))
one_hurried plan o s after (suc zero) (one, same) turns more most = (same, one.turn)
one_hurried plan o s after (suc (suc n)) quiet turns more most = absurd (omega (arith, turns, most))

pub none_hurried : (plan : List Event) (o : Opening) (s after : MachineState) (n : ℕ) → AreQuietSteps n o plan s after
    → after.turns ≡ s.turns + n → after.turns ≤ s.turns → after ≡ s
none_hurried plan o s after zero same turns most = same
none_hurried plan o s after (suc n) quiet turns most = absurd (omega (arith, turns, most))

-- the step from a state at which the run doesn't end leaves fewer
pub fewer_next : (turns : ℕ) (plan : List Event) (w after : WholeState)
    → ((x : MachineState) → CountsSteps plan (move_of plan x) x (next plan x)) → is_there turns plan w.state ≡ false
    → after.state ≡ next plan w.state → steps_left turns plan after < steps_left turns plan w
fewer_next turns plan w after counts elsewhere is =
    let same = ap (λ (s : MachineState). (turns - s.turns) + (length plan - s.taken)) is in
    let less = nearer turns plan w (stepped_whole plan w) (turns_below turns plan w.state elsewhere)
    (goes_there turns plan w.state elsewhere) refl (counts w.state) in
    omega (arith, same, less)

-- what holds of a result that is an error, and of one that is none
pub said_ok : {A E : Type 0} (r : Result A E) {P : Type 0} → is_err r ≡ false → OnOk r P → P
said_ok (Ok it) is so = so
said_ok (Err it) is so = absurd (false≢true (sym is))

pub said_err : {A E : Type 0} (r : Result A E) {P : Type 0} → is_err r ≡ true → OnErr r P → P
said_err (Ok it) is so = absurd (false≢true is)
said_err (Err it) is so = so

-- of no steps no addresses ran
pub none_ran : (image : List ℕ) (plan : List Event) (first : MachineState) → AreRan image 0 plan first []
unfolding IsStrictlySortedBy
none_ran image plan first = record {
  ascend = tt;
  are_code = All-nil (λ address. is_executable image (address / 4096) ≡ true);
  are_begun = All-nil (HasBegun 0 plan first);
  all = λ step address within begun code. absurd (omega (arith, within));
}

-- a line, and those behind it
pub line_first : (text : List ℕ) (address : ℕ) (addresses : List ℕ)
    → text ++ ((hex_16 address ++ codes "\n") ++ ran_text addresses) ≡ text ++ ran_text (address ∷ addresses)
line_first text address addresses = ap (λ l. text ++ l) (append_assoc (hex_16 address) (codes "\n") (ran_text addresses))

pub one_line : (text : List ℕ) (address : ℕ) (addresses : List ℕ)
    → (text ++ (hex_16 address ++ codes "\n")) ++ ran_text addresses ≡ text ++ ran_text (address ∷ addresses)
one_line text address addresses =
    append_assoc text (hex_16 address ++ codes "\n") (ran_text addresses) ∙ line_first text address addresses

-- and the last of them
pub last_line : (text whole : List ℕ) (addresses : List ℕ) → addresses ≡ [] → text ++ ran_text addresses ≡ whole → text ≡ whole
last_line text whole addresses none is =
    sym (append-nil text) ∙ (ap (λ l. text ++ ran_text l) (sym none) ∙ is)
