use Rattle.gate_state.proofs.laws.masked_law.Goals as goal

pub returns : goal.returns
returns c = record {
  turn = c.steps_law.ensures.masked_turn;
  stays = c.steps_law.ensures.masked_stays;
  stores = c.steps_law.ensures.masked_stores;
  fetch = c.steps_law.ensures.masked_fetch;
  event = c.steps_law.ensures.masked_event;
  source = c.steps_law.ensures.masked_source;
  translation = c.steps_law.ensures.masked_translation;
}
