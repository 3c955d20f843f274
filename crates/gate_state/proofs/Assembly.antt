-- The parts of a turn, put together.
use Rattle.gate_state.specs.MachineStates.{Opening}
use Rattle.gate_state.specs.RespectedKinds.{respecting}
use Rattle.gate_state.proofs.Delivery.{asks, delivers}
use Rattle.gate_state.proofs.FetchFormed.{fetch_formed, fetch_pass}
use Rattle.gate_state.proofs.FetchListed.{fetch_listed}
use Rattle.gate_state.proofs.FetchProtected.{fetch_protected}
use Rattle.gate_state.proofs.LowerLaws.{LowerLaws}
use Rattle.gate_state.proofs.Scene.{SceneLaws}
use Rattle.gate_state.proofs.TurnFacts.{TurnFacts}
use Rattle.gate_state.proofs.Window.{handler_point, load_effect, window_effect}
use Rattle.nk_bits.specs.declared.kind.Kind.{Kind}
use Rattle.std.proofs.Common.{List}

pub turn_facts : (laws : LowerLaws) (o : Opening) (ks : List Kind) → SceneLaws o ks → TurnFacts o ks
turn_facts laws o ks scenes = record {
  invalidates = laws.kept.invalidated (respecting o ks);
  delivers = delivers laws o ks scenes;
  asks = asks laws o ks scenes;
  fetch_pass = fetch_pass laws o ks scenes;
  fetch_formed = fetch_formed laws o ks scenes;
  fetch_protected = fetch_protected laws o ks scenes;
  fetch_listed = fetch_listed laws o ks scenes;
  window_effect = window_effect laws o ks scenes;
  load_effect = load_effect;
  handler_point = handler_point laws;
}
