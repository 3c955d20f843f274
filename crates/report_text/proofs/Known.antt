-- Results and options that are known.
use Rattle.std.proofs.Common.{◌≡◌, Option, Some, None, Result, Ok, Err, OnOk, OnErr, IfSome, IsSome, refl, sym, subst}

-- results of these types
abbrev pub ok_as : {A : Type 0} → (E : Type 0) → A → Result A E
ok_as E a = Ok a

abbrev pub err_as : {E : Type 0} → (A : Type 0) → E → Result A E
err_as A e = Err e

-- what holds where a result is an error, or is none, once it is known
pub on_err : {A E : Type 0} {r : Result A E} {e : E} {P : Type 0} → r ≡ Err e → OnErr r P → P
on_err {A = A} {E = E} {P = P} is h = let Q : Result A E → Type 0 = λ r. OnErr r P in subst Q is h

pub on_ok : {A E : Type 0} {r : Result A E} {a : A} {P : Type 0} → r ≡ Ok a → OnOk r P → P
on_ok {A = A} {E = E} {P = P} is h = let Q : Result A E → Type 0 = λ r. OnOk r P in subst Q is h

-- what holds where a result is none, or an error, and what follows from it
pub ok_then : {A E : Type 0} (r : Result A E) {P Q : Type 0} → (P → Q) → OnOk r P → OnOk r Q
ok_then (Ok a) f h = f h
ok_then (Err e) f h = tt

pub err_then : {A E : Type 0} (r : Result A E) {P Q : Type 0} → (P → Q) → OnErr r P → OnErr r Q
err_then (Ok a) f h = tt
err_then (Err e) f h = f h

pub ok_both : {A E : Type 0} (r : Result A E) {P Q R : Type 0} → (P → Q → R) → OnOk r P → OnOk r Q → OnOk r R
ok_both (Ok a) f h k = f h k
ok_both (Err e) f h k = tt

-- what holds of the value of an option
pub some_at : {A : Type 0} {o : Option A} {a : A} (P : A → Type 0) → o ≡ Some a → IfSome o P → P a
some_at {A = A} P is h = let Q : Option A → Type 0 = λ o. IfSome o P in subst Q is h

pub some_from : {A : Type 0} {o : Option A} {a : A} (P : A → Type 0) → o ≡ Some a → P a → IfSome o P
some_from {A = A} P is h = let Q : Option A → Type 0 = λ o. IfSome o P in subst Q (sym is) h

pub some_is : {A : Type 0} (o : Option A) → IsSome o → (a : A) × (o ≡ Some a)
some_is None h = absurd (cc)
some_is (Some a) h = (a, refl)

pub is_some_from : {A : Type 0} {o : Option A} {a : A} → o ≡ Some a → IsSome o
is_some_from {A = A} is = let Q : Option A → Type 0 = λ o. IsSome o in subst Q (sym is) refl
