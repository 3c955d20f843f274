use Rattle.gate_text.proofs.Instructions.{instruction_stands}
use Rattle.gate_text.proofs.Places.{byte_fits, loads_at, rows_ascend}
use Rattle.gate_text.proofs.text.listing_law.Goals as goal

pub returns : goal.returns
returns c = record {
  rows = rows_ascend;
  bytes = byte_fits;
  loads = loads_at;
  instructions = instruction_stands;
}
