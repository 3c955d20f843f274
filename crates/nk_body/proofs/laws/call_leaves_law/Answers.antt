use Rattle.nk_body.specs.CallRules.{stand_of}
use Rattle.nk_body.specs.NestedRecord.{nested_in}
use Rattle.nk_body.proofs.CallAnswers.{next_most, place_small, same_count, same_kinds, value_small}
use Rattle.nk_body.proofs.CallChanges.{call_left, entries_left}
use Rattle.nk_body.proofs.LowerLaws.{LowerLaws}
use Rattle.nk_body.proofs.laws.call_leaves_law.Goals as goal

pub returns : goal.returns
returns c =
    let lower : LowerLaws = record {
      byte = record { memory = c.memory_law.ensures; frame = c.frame_law.ensures };
      store = c.page_tables_law.ensures;
      table = c.table_calls_law.ensures;
      accepted = c.accepted_law.ensures;
      guard = c.guarded_law.ensures;
      declared = c.declared_law.ensures;
    } in
    record {
      count = λ kinds root ledger m call source.
          same_count (nested_in kinds root ledger m) call source (stand_of (nested_in kinds root ledger m) call m);
      settled = λ kinds root f ledger m call source is. (call_left lower kinds root ledger m call source is).settled f;
      reserved = λ kinds root f ledger m call source is. (call_left lower kinds root ledger m call source is).reserved f;
      loose = λ kinds root f ledger m call source is. (call_left lower kinds root ledger m call source is).loose f;
      bytes = λ kinds root place ledger m call source is. (call_left lower kinds root ledger m call source is).bytes place;
      entries = λ kinds root f i ledger m call source is.
          entries_left kinds _ m _ f i source (call_left lower kinds root ledger m call source is);
      length = λ kinds root ledger m call source is. (call_left lower kinds root ledger m call source is).size;
      are_bytes = λ kinds root ledger m call source is. (call_left lower kinds root ledger m call source is).are_bytes;
      same = λ kinds root ledger m call source.
          same_kinds (nested_in kinds root ledger m) call source (stand_of (nested_in kinds root ledger m) call m);
      next = λ kinds root ledger m call source.
          next_most (nested_in kinds root ledger m) call source (stand_of (nested_in kinds root ledger m) call m);
      value = λ kinds root ledger m call source. value_small (nested_in kinds root ledger m) call source;
      place = λ kinds root ledger m call source. place_small (nested_in kinds root ledger m) call source;
    }
