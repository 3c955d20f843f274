use Rattle.std.proofs.Common.{inl, inr}
use Rattle.nktrace.proofs.run.trace.Goals as goal

pub returns-in-Ok-clause-traced : goal.returns-in-Ok-clause-traced
returns-in-Ok-clause-traced g c = inr (record {
  steps = _;
  image = _;
  layout = _;
  input = _;
  plan = _;
  may = c.in-Ok.ensures.ready;
  put = c.show_run.ensures;
})

pub returns-in-Err-clause-traced : goal.returns-in-Err-clause-traced
returns-in-Err-clause-traced g c = inl (record {
  answer = _;
  refused = c.in-Err.ensures.refused;
  put = c.write.ensures.written;
})
