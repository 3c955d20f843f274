-- What addresses name, at worked values.
use Rattle.std.proofs.Common.{◌≡◌, refl}
use Rattle.memory_sights.specs.declared.sight.Sight.TheVariants.{Linear, Physical, Nowhere}
use Rattle.memory_sights.specs.Sights.{sight_of}

-- canonical ones are linear, as the supervisor sees them
low : sight_of 0x400000 ≡ Linear 0 0x400000
unfolding sight_of
low = refl

high : sight_of 0xFFFFFF8000004FF0 ≡ Linear 0 0xFFFFFF8000004FF0
unfolding sight_of
high = refl

-- a place in memory, and linear addresses as the user sees them, in either half
place : sight_of 0x0100000000003FF0 ≡ Physical 0x3FF0
unfolding sight_of
place = refl

user_low : sight_of 0x0200000000400000 ≡ Linear 3 0x400000
unfolding sight_of
user_low = refl

user_high : sight_of 0x0200FF8000004FF0 ≡ Linear 3 0xFFFFFF8000004FF0
unfolding sight_of
user_high = refl

-- others name nothing
none : sight_of 0x0300000000400000 ≡ Nowhere
unfolding sight_of
none = refl

last : sight_of 0x8000000000000000 ≡ Nowhere
unfolding sight_of
last = refl
