-- Which kinds no call changes, and which no call gives.
use Rattle.std.specs.Prelude.{Bool, true, false}
use Rattle.nk_bits.specs.declared.kind.Kind.{Kind}
use Rattle.nk_bits.specs.declared.kind.Kind.TheVariants.{Data, Table, Guarded}

-- no call changes this kind of a frame
abbrev pub is_settled : Kind → Bool
is_settled Data = false
is_settled (Table level) = false
is_settled _ = true

-- no call gives a frame this kind
abbrev pub is_reserved : Kind → Bool
is_reserved Data = false
is_reserved (Table level) = false
is_reserved Guarded = false
is_reserved _ = true
