-- A processor that is ready for a turn in a guarded state, what a turn keeps, and registers of 64 bits.
use Rattle.std.proofs.Common.{◌≡◌, ◌≢◌, ℕ, ◌/◌, ◌<◌, Bool, true, false, List, [], ◌++◌, All, refl, sym, ap, ◌∙◌}
use Rattle.std.proofs.lemmas.List.Elements.{All-append, All-nil}
use Rattle.nk_bits.specs.declared.kind.Kind.{Kind}
use Rattle.nk_bits.specs.Accesses.{wp_of}
use Rattle.nk_bits.specs.Claims.{AllPass}
use Rattle.nk_bits.specs.Kinds.{is_storable, kind_of}
use Rattle.phys_mem.specs.Memory.{stored}
use Rattle.phys_mem.specs.MemoryLaws.{MemoryLaws}
use Rattle.cpu_step.specs.declared.stepped.Stepped.TheVariants as stepped
use Rattle.cpu_step.specs.Processor.{Processor}
use Rattle.cpu_step.specs.Turns.{Turned, ran}
use Rattle.gate_state.specs.GateWindow.{IsGatePoint}
use Rattle.gate_state.specs.GuardedStates.{IsControlled}
use Rattle.gate_state.specs.MachineStates.{Opening}
use Rattle.gate_state.specs.MachineSteps.{shown_by_turn}
use Rattle.gate_state.specs.RespectedKinds.{respecting}
use Rattle.gate_state.specs.ShownSteps.{IsShown}
use Rattle.gate_state.proofs.Scene.{AreStores, IsScene}

pub record IsReady (o : Opening) (ks : List Kind) (p : Processor) (m : List ℕ) : Type 0 where
  pub control : IsControlled p
  pub scene : IsScene o ks m p.control
  pub pass : AllPass (respecting o ks) p.tlb

-- what a turn keeps that makes these stores, over the root and the memory m before it; where WP was clear before, it stores
-- on the trap stack alone
pub record Kept (o : Opening) (ks : List Kind) (wp : Bool) (root : ℕ) (m : List ℕ) (t : Turned) (ws : List (ℕ × ℕ)) : Type 0 where
  pub control : IsControlled t.processor
  pub same_root : t.processor.control.root ≡ root
  pub pass : AllPass (respecting o ks) t.processor.tlb
  pub window : wp_of t.processor.control.cr0 ≡ false → IsGatePoint t.processor
  pub runs : t.stepped ≢ stepped.Shutdown
  pub shows : IsShown (shown_by_turn t.stepped)
  pub memory_is : t.memory ≡ stored m ws
  pub are : AreStores ks ws
  pub places : wp ≡ false → All (λ w. w.0 / 4096 ≡ 3) ws

-- no stores
pub no_stores : (ks : List Kind) → AreStores ks []
no_stores ks = record {
  places = All-nil (λ (w : ℕ × ℕ). is_storable (kind_of ks (w.0 / 4096)) ≡ true);
  bytes = All-nil (λ (w : ℕ × ℕ). w.1 < 256);
}

pub stored_none : (m : List ℕ) → stored m [] ≡ m
unfolding stored
stored_none m = refl

-- a turn behind stores
pub kept_behind : (o : Opening) (ks : List Kind) (laws : MemoryLaws) (wp : Bool) (root : ℕ) (m after : List ℕ) (ws more : List (ℕ × ℕ)) (t : Turned) → after ≡ stored m ws → AreStores ks ws
    → (wp ≡ false → All (λ w. w.0 / 4096 ≡ 3) ws) → Kept o ks wp root after t more → Kept o ks wp root m t (ws ++ more)
kept_behind o ks laws wp root m after ws more t is are in_trap kept = record {
  control = kept.control;
  same_root = kept.same_root;
  pass = kept.pass;
  window = kept.window;
  runs = kept.runs;
  shows = kept.shows;
  memory_is = kept.memory_is ∙ ap (λ (x : List ℕ). stored x more) is ∙ sym (laws.append m ws more);
  are = record {
    places = All-append (λ (w : ℕ × ℕ). is_storable (kind_of ks (w.0 / 4096)) ≡ true) ws more are.places kept.are.places;
    bytes = All-append (λ (w : ℕ × ℕ). w.1 < 256) ws more are.bytes kept.are.bytes;
  };
  places = λ clear. All-append (λ (w : ℕ × ℕ). w.0 / 4096 ≡ 3) ws more (in_trap clear) (kept.places clear);
}

-- a turn that leaves this processor, and memory as it is
pub ran_kept : (o : Opening) (ks : List Kind) (wp : Bool) (p : Processor) (m : List ℕ) → IsReady o ks p m → (wp_of p.control.cr0 ≡ false → IsGatePoint p)
    → Kept o ks wp p.control.root m (ran p m) []
ran_kept o ks wp p m ready point = record {
  control = ready.control;
  same_root = refl;
  pass = ready.pass;
  window = point;
  runs = λ e. absurd (cc);
  shows = tt;
  memory_is = sym (stored_none m);
  are = no_stores ks;
  places = λ clear. All-nil (λ (w : ℕ × ℕ). w.0 / 4096 ≡ 3);
}
