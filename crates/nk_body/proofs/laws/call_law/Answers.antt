use Rattle.nk_body.proofs.CallRecords.{call_met}
use Rattle.nk_body.proofs.LowerLaws.{LowerLaws}
use Rattle.nk_body.proofs.WideCalls.{wide_of}
use Rattle.nk_body.proofs.laws.call_law.Goals as goal

pub returns : goal.returns
returns c =
    let lower : LowerLaws = record {
      byte = record { memory = c.memory_law.ensures; frame = c.frame_law.ensures };
      store = c.page_tables_law.ensures;
      table = c.table_calls_law.ensures;
      accepted = c.accepted_law.ensures;
      guard = c.guarded_law.ensures;
      declared = c.declared_law.ensures;
    } in
    record {
      wide = wide_of;
      nested = λ kinds root ledger m call source is. (call_met lower kinds root ledger m call source is).nested;
      sound = λ kinds root ledger m call source is. (call_met lower kinds root ledger m call source is).holds;
      kept = λ kinds root ledger m call source is. (call_met lower kinds root ledger m call source is).keeps;
    }
