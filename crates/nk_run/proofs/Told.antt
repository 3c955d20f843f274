-- Content that may be told, and results that are known.
use Rattle.std.proofs.Common.{◌≡◌, Option, Some, None, Result, Ok, Err, OnOk, OnErr, refl, subst}
use Rattle.nk_host.specs.Told.{IfTold}

-- what holds of content that may be told, where it holds of that which is
pub if_told : {A : Type 0} (told : Option A) (P : A → Type 0) → ((content : A) → told ≡ Some content → P content) → IfTold told P
if_told None P h = tt
if_told (Some content) P h = h content refl

-- and what holds of that which is
pub told_at : {A : Type 0} (told : Option A) (P : A → Type 0) (content : A) → told ≡ Some content → IfTold told P → P content
told_at {A = A} told P content e h = let Q : Option A → Type 0 = λ t. IfTold t P in subst Q e h

-- what holds where a result is an error, or is none, once it is known
pub on_err : {A E : Type 0} {r : Result A E} {e : E} {P : Type 0} → r ≡ Err e → OnErr r P → P
on_err {A = A} {E = E} {P = P} is h = let Q : Result A E → Type 0 = λ r. OnErr r P in subst Q is h

pub on_ok : {A E : Type 0} {r : Result A E} {a : A} {P : Type 0} → r ≡ Ok a → OnOk r P → P
on_ok {A = A} {E = E} {P = P} is h = let Q : Result A E → Type 0 = λ r. OnOk r P in subst Q is h
