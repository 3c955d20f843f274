-- That an instruction has a text has one proof at most, so it may be a ghost field.
use Rattle.std.proofs.Props.{props}
use Rattle.x86_decode.specs.declared.operation.Op.{Op}
use Rattle.x86_decode.specs.declared.operation.Op.TheVariants.{J, Set, Cmov}
use Rattle.x86_decode.specs.WellFormed.{HasCondition}
use Rattle.decode_fields.specs.declared.place.Place.{Place}
use Rattle.decode_fields.specs.declared.place.Place.TheVariants.{Nothing, Reg, High, Mem, Value}
use Rattle.asm_text.specs.InstructionTexts.{HasPlaceText}

-- by the operation
pub condition_prop : (op : Op) → IsProp (HasCondition op)
condition_prop (J condition) = Prim.hlevel props
condition_prop (Set condition) = Prim.hlevel props
condition_prop (Cmov condition) = Prim.hlevel props
condition_prop _ = Prim.hlevel props

-- by the operand
pub place_prop : (place : Place) → IsProp (HasPlaceText place)
place_prop Nothing = Prim.hlevel props
place_prop (Reg number) = Prim.hlevel props
place_prop (High number) = Prim.hlevel props
place_prop (Mem address) = Prim.hlevel props
place_prop Value = Prim.hlevel props

pub ruleset writable = (condition_prop, place_prop, props)
