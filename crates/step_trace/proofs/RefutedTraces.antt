-- What no trace is, what no sink took of one, and which addresses didn't run, each named by the sentence that it guards.
use Rattle.std.proofs.Common.{◌≡◌, ◌≢◌, ℕ, zero, suc, ◌+◌, ◌<◌, ◌/◌, true, false, List, [], ◌∷◌, length, take, None, Some, Option, Result, Ok, Err, refl, sym, ap, subst, ◌∙◌, arith, length-append}
use Rattle.std.specs.Prelude.{⊤, codes, IsSome, min}
use Rattle.std.specs.Cmp.{nat_cmp_is}
use Rattle.std.specs.Io.KnownBytes.{Appends}
use Rattle.std.specs.List.Sorted.{IsStrictlySortedBy}
use Rattle.std.specs.declared.cmp.Ordering.TheVariants.{Less, Equal}
use Rattle.std.proofs.lemmas.Bool.{false≢true}
use Rattle.irq_plan.specs.declared.event.Event.{Event}
use Rattle.elf_image.specs.Pages.{is_executable}
use Rattle.nk_host.specs.declared.fault.SinkFault.{SinkFault}
use Rattle.nk_host.specs.FaultCounts.{RoseTo}
use Rattle.phys_mem.specs.MaskedMemory.{seen}
use Rattle.report_text.specs.RunLines.{hex_16}
use Rattle.gate_state.specs.MachineStates.{MachineState}
use Rattle.gate_state.specs.MachineSteps.{state}
use Rattle.gate_state.specs.WholeMachine.{HeldState}
use Rattle.step_trace.specs.declared.asked.Shown.{Shown}
use Rattle.step_trace.specs.declared.ends.TraceEnd.{TraceEnd}
use Rattle.step_trace.specs.declared.ends.TraceFault.{TraceFault}
use Rattle.step_trace.specs.declared.ends.TraceFault.TheVariants as fault
use Rattle.step_trace.specs.AddressesRan.{AreRan, HasBegun, IsRanTaken, IsWholeRun, begun_in, ran_text}
use Rattle.step_trace.specs.Traces.{IsFirstReached, IsNextHeld, IsTrace, is_there}
use Rattle.step_trace.specs.TracesPut.{IsTaken, IsTraceTaken}

-- the first state that is shown is one where as many turns were taken, and is one of the run's
module _ (turns : ℕ) (plan : List Event) (first s : MachineState) where
  begins_early : is_there turns plan s ≡ false → IsFirstReached turns plan first s → ⊥
  begins_early goes it = absurd (false≢true (sym goes ∙ it.there))

  begins_elsewhere : (it : IsFirstReached turns plan first s) → it.steps ≡ 0 → s ≢ state plan first 0 → ⊥
  begins_elsewhere it none other = other (it.state_is ∙ ap (state plan first) none)

-- memory as it is has what the state sees
other_memory : (plan : List Event) (before after : HeldState) → seen after.real ≢ after.state.memory → IsNextHeld plan before after → ⊥
other_memory plan before after other it = other it.real

module _ (shown : Shown) (steps : ℕ) (plan : List Event) (first : MachineState) (why : Option TraceEnd) (text : List ℕ) where
  other_memory_first : (it : IsTrace shown steps plan first why text) → seen it.begins.real ≢ it.begins.state.memory → ⊥
  other_memory_first it other = other it.real

-- what a sink took is the text, whole or from its beginning, and its count of faults doesn't fall, and rises where it failed
module _ {O : Type 0} (taken : O → Option (List ℕ)) (faults : O → ℕ) (old new : O) where
  text_left_out : (text : List ℕ) → 0 < length text → IsTaken {A = ⊤} taken faults old new text (Ok tt)
      → taken old ≡ Some [] → taken new ≡ Some [] → ⊥
  text_left_out text some it before after =
      let all : Appends (Some []) (Some []) text =
      subst (λ b. Appends (Some []) b text) after (subst (λ a. Appends a (taken new) text) before it.all) in
      absurd (omega (arith, some, ap length all))

  other_part : (n : ℕ) → ◌≡◌ {A = List ℕ} (2 ∷ []) (take n (1 ∷ [])) → ⊥
  other_part zero is = cc
  other_part (suc n) is = cc

  other_text : IsTaken {A = ⊤} taken faults old new (1 ∷ []) (Err fault.NoMemory) → taken old ≡ Some [] → taken new ≡ Some (2 ∷ []) → ⊥
  other_text it before after =
      let part : Appends (Some []) (Some (2 ∷ [])) (take it.some.0 (1 ∷ [])) =
      subst (λ b. Appends (Some []) b (take it.some.0 (1 ∷ []))) after
      (subst (λ a. Appends a (taken new) (take it.some.0 (1 ∷ []))) before it.some.2) in
      other_part it.some.0 part

  count_falls : (text : List ℕ) (put : Result ⊤ TraceFault) → IsTaken taken faults old new text put → faults new < faults old → ⊥
  count_falls text put it fell = absurd (omega (arith, it.never_falls, fell))

  cut_without_a_fault : (text : List ℕ) (why : SinkFault) → IsTaken {A = ⊤} taken faults old new text (Err (fault.Cut why))
      → (RoseTo (faults old) (faults new) → ⊥) → ⊥
  cut_without_a_fault text why it quiet = quiet it.failed

  -- a trace is whole, begins where it was asked for, and was taken
  module _ (shown : Shown) (steps : ℕ) (plan : List Event) (first : MachineState) where
    endless : (it : IsTraceTaken {A = ⊤} taken faults old new shown steps plan first (Ok tt)) → it.why ≡ None → ⊥
    endless it none = absurd (false≢true (subst (λ (why : Option TraceEnd). IsSome why) none it.whole))

    trace_begins_early : (it : IsTraceTaken {A = ⊤} taken faults old new shown steps plan first (Ok tt))
        → is_there (min steps shown.from) plan it.trace.begins.state ≡ false → ⊥
    trace_begins_early it goes = begins_early (min steps shown.from) plan first it.trace.begins.state goes it.trace.reached

    trace_left_out : (it : IsTraceTaken {A = ⊤} taken faults old new shown steps plan first (Ok tt)) → 0 < length it.text
        → taken old ≡ Some [] → taken new ≡ Some [] → ⊥
    trace_left_out it some = text_left_out it.text some it.is_taken

-- an instruction began in a step of the run, and there
module _ (image : List ℕ) (plan : List Event) (first : MachineState) (address : ℕ) where
  began_behind : HasBegun 0 plan first address → ⊥
  began_behind it = absurd (omega (arith, it.within))

  began_elsewhere : begun_in plan (state plan first 0) ≡ None → HasBegun 1 plan first address → ⊥
  began_elsewhere none it =
      let same : it.step ≡ 0 = omega (arith, it.within) in
      let other : None ≡ Some address = sym none ∙ subst (λ k. begun_in plan (state plan first k) ≡ Some address) same it.begun in cc

  -- each address is the image's code, began, stands once, and none is left out
  no_code : is_executable image (address / 4096) ≡ false → AreRan image 1 plan first (address ∷ []) → ⊥
  no_code other it = absurd (false≢true (sym other ∙ it.are_code 0 0 (omega arith)))

  never_began : AreRan image 0 plan first (address ∷ []) → ⊥
  never_began it = began_behind (it.are_begun 0 0 (omega arith))

  stands_twice : AreRan image 1 plan first (address ∷ address ∷ []) → ⊥
  unfolding IsStrictlySortedBy
  stands_twice it = let other : Equal ≡ Less = nat_cmp_is address address Equal refl ∙ it.ascend.0.0 in cc

  left_out : begun_in plan (state plan first 0) ≡ Some address → is_executable image (address / 4096) ≡ true
      → AreRan image 1 plan first [] → ⊥
  left_out began code it = absurd (false≢true (it.all 0 address (omega arith) began code))

-- the steps are those of the whole run
module _ (turns : ℕ) (plan : List Event) (first : MachineState) where
  part_of_the_run : is_there turns plan (state plan first 0) ≡ false → IsWholeRun turns plan first 0 → ⊥
  part_of_the_run goes it = absurd (false≢true (sym goes ∙ it.there))

  more_than_the_run : is_there turns plan (state plan first 0) ≡ true → IsWholeRun turns plan first 1 → ⊥
  more_than_the_run there it = absurd (false≢true (sym (it.not_before 0 (omega arith)) ∙ there))

-- and their addresses were taken, all of them
module _ {O : Type 0} (taken : O → Option (List ℕ)) (faults : O → ℕ) (old new : O) (image : List ℕ) (turns : ℕ) (plan : List Event)
    (first : MachineState) where
  ran_in_part : (it : IsRanTaken {A = ⊤} taken faults old new image turns plan first (Ok tt)) → it.steps ≡ 0
      → is_there turns plan (state plan first 0) ≡ false → ⊥
  ran_in_part it none goes =
      part_of_the_run turns plan first goes (subst (λ n. IsWholeRun turns plan first n) none it.whole)

  ran_nowhere : (it : IsRanTaken {A = ⊤} taken faults old new image turns plan first (Ok tt)) (address : ℕ) → it.steps ≡ 0
      → it.addresses ≡ address ∷ [] → ⊥
  ran_nowhere it address none one =
      never_began image plan first address
      (subst (λ n. AreRan image n plan first (address ∷ [])) none (subst (λ l. AreRan image it.steps plan first l) one it.ran))

  ran_untold : (it : IsRanTaken {A = ⊤} taken faults old new image turns plan first (Ok tt)) (address : ℕ)
      → it.addresses ≡ address ∷ [] → taken old ≡ Some [] → taken new ≡ Some [] → ⊥
  ran_untold it address one =
      let some : length (ran_text (address ∷ [])) ≡ length (hex_16 address) + 1 = length-append (hex_16 address) (codes "\n") in
      text_left_out taken faults old new (ran_text it.addresses)
      (subst (λ l. 0 < length (ran_text l)) (sym one) (omega (arith, some))) it.is_taken
