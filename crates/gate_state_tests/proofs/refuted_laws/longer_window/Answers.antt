use Rattle.std.proofs.Common.{sym, ◌∙◌, arith, inl, inr}
use Rattle.std.proofs.lemmas.Bool.{false≢true}
use Rattle.gate_state_tests.proofs.refuted_laws.longer_window.Goals as goal

pub returns : goal.returns
returns c = record {
  twelve = λ p is. let most = (c.window_law.ensures.within p).1 in omega (arith, is, most);
  none = λ p is. let least = (c.window_law.ensures.within p).0 in omega (arith, is, least);
  turn = λ o s admitted guarded takes clear still longer.
      elim (c.window_law.ensures.turn o s admitted guarded takes clear) [
        | inl set ↦ false≢true (sym still ∙ set)
        | inr fewer ↦ omega (arith, fewer, longer)
      ];
  body = λ o s admitted guarded enters longer.
      let fewer = c.window_law.ensures.body o s admitted guarded enters in omega (arith, fewer, longer);
  event = λ what s other. other (c.window_law.ensures.event what s).0;
  event_left = λ what s other. other (c.window_law.ensures.event what s).1;
  step = λ o plan s admitted guarded clear none. none (c.window_law.ensures.step o plan s admitted guarded clear);
}
