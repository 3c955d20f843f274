use Rattle.std.proofs.Common.{ℕ, ◌&&◌, List}
use Rattle.std.proofs.lemmas.Bool.{and_parts}
use Rattle.step_trace.proofs.SameFrames.{same_joined}
use Rattle.step_trace.proofs.memory.is_same_32.Goals as goal

pub returns : goal.returns
returns c = λ same.
    let both = and_parts (c.is_same_8.result && c.is_same_8-2.result) (c.is_same_8-3.result && c.is_same_8-4.result) same in
    let front = and_parts c.is_same_8.result c.is_same_8-2.result both.0 in
    let back = and_parts c.is_same_8-3.result c.is_same_8-4.result both.1 in
    let at : ℕ = c.args.at in
    let m : List ℕ = c.args.mem.now in
    let d : List ℕ = c.args.copy.now in
    same_joined at 24 8 d m (same_joined at 16 8 d m (same_joined at 8 8 d m (c.is_same_8.ensures front.0) (c.is_same_8-2.ensures front.1)) (c.is_same_8-3.ensures back.0)) (c.is_same_8-4.ensures back.1)
