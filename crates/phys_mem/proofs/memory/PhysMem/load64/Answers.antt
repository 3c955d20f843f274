use Rattle.std.proofs.Common.{◌≡◌, sym, ap, ◌∙◌, take, drop, w64, lit≤}
use Rattle.std.proofs.lemmas.List.{take-take}
use Rattle.std.specs.Int.{from_le_bytes}
use Rattle.phys_mem.specs.Runs.{run_at}
use Rattle.phys_mem.proofs.Words.{number_at-le64}
use Rattle.phys_mem.proofs.memory.PhysMem.load64.Goals as goal

pub returns : goal.returns
returns c =
    let first = rw c.unwrap-bytes.ensures at c.first_chunk.ensures.cases in
    let all : c.run.result.now ≡ take 8 (drop c.args.at c.args.self.now) = c.run.ensures.bytes ∙ ap (λ m. run_at m c.args.at 8) c.self.view_is in
    let same : c.unwrap-bytes.result.now ≡ take 8 (drop c.args.at c.args.self.now) = first.same ∙ (ap (take 8) all ∙ take-take 8 8 (drop c.args.at c.args.self.now) (lit≤ tt)) in
    c.from_le_bytes.ensures ∙ (ap (from_le_bytes w64) same ∙ sym (number_at-le64 c.args.self.now c.args.at))
