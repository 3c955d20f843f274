use Rattle.std.proofs.Common.{arith}
use Rattle.cpu_step.proofs.WordBytes.{fifteen_bytes}
use Rattle.cpu_step.proofs.memo.words.Goals as goal

pub returns : goal.returns
returns c = record {
  bytes = fifteen_bytes c.args.bytes.now c.word_at.result c.word_at-2.result c.requires.length (λ k. omega (arith, c.type_inv.bytes k)) c.word_at.ensures c.word_at-2.ensures;
}
