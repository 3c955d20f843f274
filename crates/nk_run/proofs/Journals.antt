-- A replay goes over the whole text of a run.
use Rattle.std.proofs.Common.{◌≡◌, ℕ, zero, suc, ◌^◌, ◌<◌, ◌≤◌, List, [], ◌∷◌, ◌++◌, refl, sym, ap, subst, ◌∙◌, append-nil, append_assoc, arith}
use Rattle.std.specs.Prelude.{Option, None, Some, if◌then◌else◌}
use Rattle.std.proofs.lemmas.Bool.{eq-eqb}
use Rattle.irq_plan.specs.declared.event.Event.{Event}
use Rattle.text_lines.specs.TextLines.{lines}
use Rattle.nk_body.specs.CallRules.{made}
use Rattle.nk_body.specs.NestedRecord.{Nested}
use Rattle.nk_body.specs.ReplayBeside.{IsBeside}
use Rattle.nk_body.specs.BookLaws.{BesideLaws}
use Rattle.gate_state.specs.declared.moves.Move.{Move}
use Rattle.gate_state.specs.GuardedStates.{IsGuarded}
use Rattle.gate_state.specs.MachineStates.{MachineState, Opening, nested_of}
use Rattle.gate_state.specs.MachineSteps.{Made, called_by, calls, made_by_all, move_of, next, seen_by, state}
use Rattle.gate_state.specs.StepsTaken.{CountsSteps}
use Rattle.gate_state.specs.WholeMachine.{is_rest}
use Rattle.replay_core.specs.JournalLines.{Ends}
use Rattle.replay_core.specs.ReplayedCalls.{WholeReplay, Replayed, replay_from, stops_well}
use Rattle.report_text.specs.ClosingSection.{section}
use Rattle.report_text.specs.RunLines.{ending_line, turns_line}
use Rattle.nk_run.specs.declared.ending.Ending.{Ending}
use Rattle.nk_run.specs.declared.ending.Ending.TheVariants as ending
use Rattle.nk_run.specs.ReplayedRuns.{was_table}
use Rattle.nk_run.specs.RunStates.{closing, ended, ending_at, is_halted, one_unless, shown_by, steps_within}
use Rattle.nk_run.specs.RunStates.{lines_from}
use Rattle.gate_state.specs.ShownSteps.{IsShown, IsShownCall}
use Rattle.nk_run.proofs.HeardLines.{ending_heard}
use Rattle.nk_run.proofs.ReplaySteps.{replay_line}
use Rattle.nk_run.proofs.Runs.{counted, left, not_resting, turn_left}
use Rattle.nk_run.proofs.RunSteps.{IsStepped, called_first, replay_beside, step_beside}
use Rattle.nk_run.proofs.ToldSections.{opened}

-- What is known of the states of a run.

pub record Follows (o : Opening) (plan : List Event) (s : MachineState) : Type 0 where
  pub guarded : (k : ℕ) → IsGuarded o (state plan s k)
  pub made : (k : ℕ) → nested_of (state plan s k) ≡ made_by_all (nested_of s) (calls plan s k)

made_append : (nk : Nested) (one later : List Made)
    → made_by_all nk (one ++ later) ≡ made_by_all (made_by_all nk one) later
made_append nk [] later = refl
made_append nk (it ∷ one) later = made_append (made nk it.call it.source it.stand) one later

module _ (o : Opening) (plan : List Event) (s : MachineState) (follows : Follows o plan s) where
  here_guarded : IsGuarded o s
  unfolding state
  here_guarded = follows.guarded 0

  pub next_made : nested_of (next plan s) ≡ made_by_all (nested_of s) (called_by (move_of plan s) s [])
  unfolding state calls
  next_made = follows.made 1

  made_more : (mv : Move) (later : List Made) → made_by_all (nested_of s) (called_by mv s later)
      ≡ made_by_all (made_by_all (nested_of s) (called_by mv s [])) later
  made_more mv later =
      ap (made_by_all (nested_of s)) (called_first mv s later)
      ∙ made_append (nested_of s) (called_by mv s []) later

  follows_next : Follows o plan (next plan s)
  unfolding state calls
  follows_next = record {
    guarded = λ k. follows.guarded (suc k);
    made = λ k.
        follows.made (suc k)
        ∙ made_more (move_of plan s) (calls plan (next plan s) k)
        ∙ ap (λ (nk : Nested). made_by_all nk (calls plan (next plan s) k)) (sym next_made);
  }

-- where a replay ends
pub record IsReplayed (o : Opening) (plan : List Event) (s : MachineState) (before : List Made) (n : ℕ)
    (r : WholeReplay) : Type 0 where
  pub good : r.bad ≡ None
  pub held : ℕ → ℕ → ℕ
  pub memory : List ℕ
  pub made : r.made ≡ replay_beside (nested_of (state plan s n)) held memory
  pub beside : IsBeside (opened o) (was_table o (before ++ calls plan s n)) (nested_of (state plan s n)) held memory

module _ (o : Opening) (plan : List Event) (steps : ℕ) where
  -- the replay of the text of n steps from a state on, and of the closing section behind it
  abbrev text_from : ℕ → MachineState → List ℕ
  text_from n s = lines_from n plan s ++ closing o steps plan (state plan s n)

  abbrev replay_after : ℕ → MachineState → ℕ → (ℕ → ℕ → ℕ) → List ℕ → WholeReplay
  replay_after n s number held m = replay_from number (lines (text_from n s)) (replay_beside (nested_of s) held m)

  module _ (s : MachineState) (before : List Made) (held : ℕ → ℕ → ℕ) (m : List ℕ) (number : ℕ)
      (beside : IsBeside (opened o) (was_table o before) (nested_of s) held m) where
    -- no step is left
    ended_here : (reason : Ending) → ending_at steps plan s ≡ Some reason
        → IsReplayed o plan s before 0 (replay_after 0 s number held m)
    unfolding lines_from state closing calls
    ended_here reason e =
        let rest : List ℕ = turns_line s.turns ++ section o.image o.frames (nested_of s) in
        let start : Replayed = replay_beside (nested_of s) held m in
        let is : replay_after 0 s number held m ≡ stops_well start =
        ap (λ end. replay_from number (lines (ended end ++ rest)) start) e
        ∙ replay_line number (ending_line (is_halted reason)) rest (Some Ends) start
        (ending_heard (is_halted reason)) in
        record {
          good = ap (λ (r : WholeReplay). r.bad) is;
          held = held;
          memory = m;
          made = ap (λ (r : WholeReplay). r.made) is;
          beside = subst (λ calls. IsBeside (opened o) (was_table o calls) (nested_of s) held m)
              (sym (append-nil before)) beside;
        }

    -- a step, and then those that are left
    goes_on : (n : ℕ) → Follows o plan s → (it : IsStepped o before s held m number (move_of plan s))
        → IsReplayed o plan (next plan s) (before ++ called_by (move_of plan s) s []) n
        (replay_after n (next plan s) it.number_after it.held_after it.memory_after)
        → IsReplayed o plan s before (suc n) (replay_after (suc n) s number held m)
    unfolding lines_from state calls
    goes_on n follows it later =
        let after : WholeReplay = replay_after n (next plan s) it.number_after it.held_after it.memory_after in
        let is : replay_after (suc n) s number held m ≡ after =
        ap (λ text. replay_from number (lines text) (replay_beside (nested_of s) held m))
        (append_assoc (shown_by (move_of plan s) s) (lines_from n plan (next plan s))
        (closing o steps plan (state plan (next plan s) n)))
        ∙ it.goes (text_from n (next plan s))
        ∙ ap (λ (nk : Nested).
        replay_from it.number_after (lines (text_from n (next plan s)))
        (replay_beside nk it.held_after it.memory_after))
        (sym (next_made o plan s follows)) in
        record {
          good = ap (λ (r : WholeReplay). r.bad) is ∙ later.good;
          held = later.held;
          memory = later.memory;
          made = ap (λ (r : WholeReplay). r.made) is ∙ later.made;
          beside = subst (λ calls. IsBeside (opened o) (was_table o calls)
              (nested_of (state plan (next plan s) n)) later.held later.memory)
              (append_assoc before (called_by (move_of plan s) s []) (calls plan (next plan s) n)
              ∙ ap (λ calls. before ++ calls) (sym (called_first (move_of plan s) s (calls plan (next plan s) n))))
              later.beside;
        }

at_limit : (steps : ℕ) (plan : List Event) (s : MachineState) → s.turns ≡ steps
    → ending_at steps plan s ≡ Some ending.Steps
unfolding ending_at
at_limit steps plan s all =
    λ i. if eq-eqb s.turns steps all i then Some ending.Steps
    else if is_rest (move_of plan s) then Some ending.Halted else None

-- what steps show and count
pub record StepLaws (o : Opening) (plan : List Event) : Type 0 where
  pub seen : (s : MachineState) → IsGuarded o s → IsShown (seen_by (move_of plan s) s)
  pub called : (s : MachineState) → IsGuarded o s → s.turns < 2 ^ 62 → IsShownCall s
  pub counts : (s : MachineState) → CountsSteps plan (move_of plan s) s (next plan s)

module _ (beside_laws : BesideLaws) (o : Opening) (plan : List Event) (laws : StepLaws o plan)
    (steps : ℕ) (most_steps : steps ≤ 4294967296) where
  stepped : (s : MachineState) (before : List Made) (held : ℕ → ℕ → ℕ) (m : List ℕ) (number : ℕ) → Follows o plan s
      → s.turns ≤ steps → IsBeside (opened o) (was_table o before) (nested_of s) held m
      → IsStepped o before s held m number (move_of plan s)
  stepped s before held m number follows turns beside =
      let guarded : IsGuarded o s = here_guarded o plan s follows in
      step_beside beside_laws o before s guarded held m number beside (move_of plan s) (laws.seen s guarded)
      (laws.called s guarded (omega (arith, turns, most_steps)))

  pub replays : (most : ℕ) (s : MachineState) (before : List Made) (held : ℕ → ℕ → ℕ) (m : List ℕ) (number : ℕ)
      → Follows o plan s → s.turns ≤ steps → left steps plan s ≤ most
      → IsBeside (opened o) (was_table o before) (nested_of s) held m
      → IsReplayed o plan s before (steps_within most steps plan s)
      (replay_after o plan steps (steps_within most steps plan s) s number held m)
  unfolding steps_within
  replays zero s before held m number follows turns enough beside =
      ended_here o plan steps s before held m number beside ending.Steps
      (at_limit steps plan s (omega (arith, turns, enough)))
  replays (suc most) s before held m number follows turns enough beside =
      by_end (ending_at steps plan s) refl
      (λ goes.
      let it = stepped s before held m number follows turns beside in
      let called : List Made = before ++ called_by (move_of plan s) s [] in
      let counts = counted steps plan s (next plan s) (move_of plan s) (turn_left steps plan s turns goes)
      (not_resting steps plan s goes) (laws.counts s) in
      goes_on o plan steps s before held m number beside (steps_within most steps plan (next plan s)) follows it
      (replays most (next plan s) called it.held_after it.memory_after it.number_after
      (follows_next o plan s follows) counts.turns (omega (arith, enough, counts.less))
      (subst (λ (nk : Nested). IsBeside (opened o) (was_table o called) nk it.held_after it.memory_after)
      (sym (next_made o plan s follows)) it.beside)))
    where
      by_end : (end : Option Ending) → ending_at steps plan s ≡ end
          → (ending_at steps plan s ≡ None
          → IsReplayed o plan s before (suc (steps_within most steps plan (next plan s)))
          (replay_after o plan steps (suc (steps_within most steps plan (next plan s))) s number held m))
          → IsReplayed o plan s before (one_unless end (steps_within most steps plan (next plan s)))
          (replay_after o plan steps (one_unless end (steps_within most steps plan (next plan s))) s number held m)
      by_end None is later = later is
      by_end (Some reason) is later = ended_here o plan steps s before held m number beside reason is
