use Rattle.std.proofs.Common.{rules, ◌≡◌, arith}
use Rattle.cpu_step.proofs.LineForms.{word_same}
use Rattle.cpu_step.proofs.lines.has_word.Goals as goal

pub returns : goal.returns
returns c = record {
  same = λ equal k from below.
      let same : c.word_at-kept.result ≡ c.load64-found.result = search (rules, equal) in
      word_same c.args.code.now c.args.mem.now c.args.at c.args.place c.word_at-kept.result c.load64-found.result k c.bytes_law.ensures
      (λ i. omega (arith, c.type_inv.code i)) c.requires.length c.requires.within c.word_at-kept.ensures c.load64-found.ensures same from below;
}
