use Rattle.boot_map.proofs.OpeningLaws.{gate_bytes, image_bytes}
use Rattle.boot_map.proofs.laws.opening_bytes_law.Goals as goal

pub returns : goal.returns
returns c = record {
  gates = gate_bytes;
  image = image_bytes;
}
