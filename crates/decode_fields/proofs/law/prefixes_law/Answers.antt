use Rattle.std.proofs.Common.{sym, length, drop}
use Rattle.decode_fields.specs.Prefixes.{prefix_bytes}
use Rattle.decode_fields.proofs.PrefixLaws.{Splits, splits-rest}
use Rattle.decode_fields.proofs.law.prefixes_law.Goals as goal

pub returns : goal.returns
returns c = record {
  front = λ bytes. let s : Splits bytes (prefix_bytes bytes) (drop (length (prefix_bytes bytes)) bytes) = splits-rest bytes in sym s.parts;
  all = λ bytes. let s : Splits bytes (prefix_bytes bytes) (drop (length (prefix_bytes bytes)) bytes) = splits-rest bytes in s.front_all;
  ends = λ bytes byte more e. let s : Splits bytes (prefix_bytes bytes) (drop (length (prefix_bytes bytes)) bytes) = splits-rest bytes in s.ends byte more e;
}
