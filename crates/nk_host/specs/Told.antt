-- Content that the outside may tell, or keep to itself.
use Rattle.std.specs.Prelude.{Option, None, Some, ⊤}

-- a fact of the content where it is told, and nothing where it isn't
abbrev pub IfTold : {A : Type 0} → Option A → (A → Type 0) → Type 0
IfTold None P = ⊤
IfTold (Some content) P = P content
