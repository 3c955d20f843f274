use Rattle.std.proofs.Common.{inl, inr}
use Rattle.nktrace.proofs.run.ran.Goals as goal

pub returns-in-Ok-clause-told : goal.returns-in-Ok-clause-told
returns-in-Ok-clause-told g c = inr (record {
  steps = _;
  image = _;
  layout = _;
  input = _;
  plan = _;
  may = c.in-Ok.ensures.ready;
  put = c.show_ran.ensures;
})

pub returns-in-Err-clause-told : goal.returns-in-Err-clause-told
returns-in-Err-clause-told g c = inl (record {
  answer = _;
  refused = c.in-Err.ensures.refused;
  put = c.write.ensures.written;
})
