-- Why the last of some steps stops a debugger, and that those before it don't.
use Rattle.std.proofs.Common.{◌≡◌, ℕ, suc, ◌+◌, ◌-◌, ◌<◌, ◌≤◌, ◌⊎◌, inl, inr, Bool, true, false, not, ◌||◌, bytes_eq, if◌then◌else◌, nat_eq, List, [], ◌∷◌, length, Option, None, Some, refl, sym, ap, ◌∙◌, arith, ⊎_elim}
use Rattle.std.specs.List.{list_any}
use Rattle.std.proofs.lemmas.Slice.Eq.{bytes_eq-Decides}
use Rattle.arrayvec.specs.ArrayVec.{ArrayVec}
use Rattle.gate_state.specs.declared.moves.Move.{Move}
use Rattle.gate_state.specs.declared.seen.Seen.{Seen}
use Rattle.gate_state.specs.declared.seen.Step.{Step}
use Rattle.gate_state.specs.declared.seen.Step.TheVariants as step
use Rattle.gate_state.specs.MachineStates.{MachineState}
use Rattle.gate_state.specs.MachineSteps.{move_of, step_by}
use Rattle.run_moments.specs.declared.stops.Catches.{Catches}
use Rattle.run_moments.specs.declared.stops.Stop.{Stop}
use Rattle.run_moments.specs.declared.stops.Stop.TheVariants as stop
use Rattle.run_moments.specs.declared.stops.Stops.{Stops}
use Rattle.run_moments.specs.declared.stops.Watch.{Watch}
use Rattle.run_moments.specs.AdvancedMoments.{IsAdvanced, IsQuietAt}
use Rattle.run_moments.specs.Moments.{RunParts, state_at}
use Rattle.run_moments.specs.Stops.{changed_by, stands_among, is_caught, is_changed, or_else, stop_if, stop_on}
use Rattle.run_moments.specs.StopsMet.{IsPassed, all_seen, glances_of, differs_by, shows_step}
use Rattle.run_moments.proofs.GoingOn.{advanced_on, advanced_within}

-- a breakpoint stands there, as a search finds it
pub among_any : (xs : List ℕ) (x : ℕ) → list_any (λ (y : ℕ). nat_eq y x) xs ≡ stands_among xs x
among_any [] x = refl
among_any (y ∷ xs) x = ap (λ (b : Bool). nat_eq y x || b) (among_any xs x)

-- of bytes that were kept at a state, those differ that changed since
pub differs_changed : (watches : List Watch) (s after : MachineState)
    → differs_by watches (all_seen watches s) after ≡ changed_by watches s after
differs_changed [] s after = refl
differs_changed (watch ∷ later) s after =
    ap (λ (o : Option Stop). if is_changed s after watch then Some (stop.Watched watch.address) else o) (differs_changed later s after)

pub seen_length : (watches : List Watch) (s : MachineState) → length (all_seen watches s) ≡ length watches
seen_length [] s = refl
seen_length (watch ∷ later) s = ap suc (seen_length later s)

-- and where none does, they are those of the state behind
pub same_bytes : (xs ys : List ℕ) → bytes_eq xs ys ≡ true → xs ≡ ys
same_bytes xs ys is = (bytes_eq-Decides xs ys).0 is

same_by : (b : Bool) (why : Stop) (o : Option Stop) → (if not b then Some why else o) ≡ None → (b ≡ true) × (o ≡ None)
same_by true why o is = (refl, is)
same_by false why o is = absurd (cc)

pub kept_same : (watches : List Watch) (s after : MachineState) → differs_by watches (all_seen watches s) after ≡ None
    → all_seen watches s ≡ all_seen watches after
kept_same [] s after none = refl
kept_same (watch ∷ later) s after none =
    let both = same_by (bytes_eq (glances_of s watch).items (glances_of after watch).items) (stop.Watched watch.address)
    (differs_by later (all_seen later s) after) none in
    let one : glances_of s watch ≡ glances_of after watch =
    ap (λ (l : List ℕ). record { items = l }) (same_bytes (glances_of s watch).items (glances_of after watch).items both.0) in
    λ i. one i ∷ kept_same later s after both.1 i

pub none_else : (a b : Option Stop) → or_else a b ≡ None → (a ≡ None) × (b ≡ None)
none_else None b is = (refl, is)
none_else (Some why) b is = absurd (cc)

-- a turn that shows nothing isn't caught
pub quiet_caught : (catches : Catches) (run : RunParts) (k : ℕ) → IsQuietAt run k
    → is_caught catches (step_by (move_of run.plan (state_at run k)) (state_at run k)) ≡ false
quiet_caught catches run k quiet =
    ap (λ (m : Move). is_caught catches (step_by m (state_at run k))) quiet.turn
    ∙ ap (λ (it : Seen). is_caught catches (step.Seen it)) quiet.quiet

-- the last step of an advance is caught where it was told
last_caught : (catches : Catches) (run : RunParts) (limit from to : ℕ) (told : Option Step) → IsAdvanced run limit from to told
    → shows_step catches told ≡ is_caught catches (step_by (move_of run.plan (state_at run (to - 1))) (state_at run (to - 1)))
last_caught catches run limit from to None it =
    sym (quiet_caught catches run (to - 1) (it.quiet (to - 1) (omega (arith, it.some)) (omega (arith, it.some))))
last_caught catches run limit from to (Some step) it =
    ap (is_caught catches) it.step
    ∙ ap (λ (k : ℕ). is_caught catches (step_by (move_of run.plan (state_at run k)) (state_at run k))) (omega (arith, it.one))

-- what stops a debugger on a step
pub stops_by : (stops : Stops) (run : RunParts) (k : ℕ)
    → or_else (changed_by stops.watches.items (state_at run k) (state_at run (suc k)))
    (stop_if (is_caught stops.catches (step_by (move_of run.plan (state_at run k)) (state_at run k))) stop.Caught) ≡ stop_on stops run k
unfolding stop_on
stops_by stops run k = refl

quiet_stops : (stops : Stops) (run : RunParts) (k : ℕ) → stops.watches.items ≡ [] → IsQuietAt run k → stop_on stops run k ≡ None
quiet_stops stops run k none quiet =
    sym (stops_by stops run k)
    ∙ (λ i. or_else (changed_by (none i) (state_at run k) (state_at run (suc k)))
    (stop_if (quiet_caught stops.catches run k quiet i) stop.Caught))

-- the watchpoints' part of the last step's reason
record IsLast (stops : Stops) (run : RunParts) (from to : ℕ) : Type 0 where
  one : (to ≡ suc from) ⊎ (stops.watches.items ≡ [])
  ahead : from < to

last_differs : (stops : Stops) (run : RunParts) (from to : ℕ) (kept : List (ArrayVec ℕ)) → IsLast stops run from to
    → kept ≡ all_seen stops.watches.items (state_at run from)
    → differs_by stops.watches.items kept (state_at run to)
    ≡ changed_by stops.watches.items (state_at run (to - 1)) (state_at run (suc (to - 1)))
last_differs stops run from to kept last is =
    ⊎_elim
    (λ (one : to ≡ suc from). (
    let here : from ≡ to - 1 = omega (arith, one) in
    let there : to ≡ suc (to - 1) = omega (arith, one) in
    ap (λ l. differs_by stops.watches.items l (state_at run to)) is
    ∙ differs_changed stops.watches.items (state_at run from) (state_at run to)
    ∙ (λ i. changed_by stops.watches.items (state_at run (here i)) (state_at run (there i)))))
    (λ (none : stops.watches.items ≡ []).
    (ap (λ l. differs_by l kept (state_at run to)) none
    ∙ sym (ap (λ l. changed_by l (state_at run (to - 1)) (state_at run (suc (to - 1)))) none)))
    last.one

-- how many steps there may be at a time
alone_by : (steps from to : ℕ) {A : Type 0} → (steps ≡ 1) ⊎ A → from < to → to ≤ from + steps → (to ≡ suc from) ⊎ A
alone_by steps from to (inl one) ahead within = inl (omega (arith, one, ahead, within))
alone_by steps from to (inr it) ahead within = inr it

before_none : (stops : Stops) (run : RunParts) (limit from to : ℕ) (told : Option Step) → IsAdvanced run limit from to told
    → (to ≡ suc from) ⊎ (stops.watches.items ≡ []) → (k : ℕ) → from ≤ k → suc k < to → stop_on stops run k ≡ None
before_none stops run limit from to told it (inl one) k least below = absurd (omega (arith, one, least, below))
before_none stops run limit from to (Some step) it (inr none) k least below = absurd (omega (arith, it.one, least, below))
before_none stops run limit from to None it (inr none) k least below =
    quiet_stops stops run k none (it.quiet k least (omega (arith, below)))

module _ (stops : Stops) (run : RunParts) (steps limit from to : ℕ) (told : Option Step) (it : IsAdvanced run limit from to told)
    (some : 0 < steps) (most : limit ≤ (state_at run from).turns + steps)
    (breakpoints : (steps ≡ 1) ⊎ (stops.breakpoints.items ≡ [])) (watches : (steps ≡ 1) ⊎ (stops.watches.items ≡ []))
    (kept : List (ArrayVec ℕ)) (is : kept ≡ all_seen stops.watches.items (state_at run from)) (why : Option Stop)
    (reason : why ≡ or_else (differs_by stops.watches.items kept (state_at run to)) (stop_if (shows_step stops.catches told) stop.Caught))
  where
    -- they were passed
    pub passed_by : IsPassed stops run from to why
    passed_by =
        let ahead = advanced_on run limit from to told it in
        let within = advanced_within run limit from to steps told it most some in
        let one = alone_by steps from to watches ahead within in
        record {
          ahead = ahead;
          on = reason
              ∙ (λ i. or_else (last_differs stops run from to kept (record { one = one; ahead = ahead }) is i)
              (stop_if (last_caught stops.catches run limit from to told it i) stop.Caught))
              ∙ stops_by stops run (to - 1);
          before = before_none stops run limit from to told it one;
          alone = alone_by steps from to breakpoints ahead within;
        }

    -- and where none stops, the bytes that were kept are those there
    pub kept_by : why ≡ None → kept ≡ all_seen stops.watches.items (state_at run to)
    kept_by none =
        let parts = none_else (differs_by stops.watches.items kept (state_at run to)) (stop_if (shows_step stops.catches told) stop.Caught)
        (sym reason ∙ none) in
        is ∙ kept_same stops.watches.items (state_at run from) (state_at run to)
        (ap (λ l. differs_by stops.watches.items l (state_at run to)) (sym is) ∙ parts.0)
