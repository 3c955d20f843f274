use Rattle.std.proofs.Common.{ℕ, List, [], sym, Bor}
use Rattle.std.proofs.lemmas.List.{get_or-map}
use Rattle.asm_text.proofs.op_names.name_in.Goals as goal

pub returns : goal.returns
returns c = sym (get_or-map (λ (name : Bor (List ℕ)). name.now) c.args.names.now c.args.place _ [] c.requires)
