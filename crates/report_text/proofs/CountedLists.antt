-- Counts over a log and over the slots of a list, and the bytes of a region behind a record.
use Rattle.std.proofs.Common.{◌≡◌, ℕ, zero, suc, ◌+◌, ◌-◌, ◌<◌, ◌≤◌, Bool, true, false, List, [], ◌∷◌, length, drop, filter, Some, refl, sym, ap, ◌∙◌, arith, length-append, length-take, length-drop}
use Rattle.std.specs.Prelude.{◌==◌, if◌then◌else◌, slice_get}
use Rattle.std.specs.Int.{from_bool}
use Rattle.std.specs.List.{Contains, range_with_len}
use Rattle.std.proofs.lemmas.Bool.{eqb-true}
use Rattle.std.proofs.lemmas.Option.{get_or_from_slice_get, same_Some}
use Rattle.proc_audit.specs.ProcessList.{overwritten}
use Rattle.write_log.specs.LogRecords.{LogRecord}
use Rattle.report_text.specs.AuditLines.{after_record}

-- the list from a place on
pub from_place : {A : Type 0} (xs : List A) (i : ℕ) (x : A) → slice_get xs i ≡ Some x → drop i xs ≡ x ∷ drop (i + 1) xs
from_place [] i x e = absurd (cc)
from_place (y ∷ xs) zero x e = ap (λ y. y ∷ xs) (same_Some y x e)
from_place (y ∷ xs) (suc i) x e =
    let next : suc i + 1 ≡ suc (i + 1) = omega arith in
    from_place xs i x e ∙ ap (λ n. x ∷ drop n (y ∷ xs)) (sym next)

pub within_list : {A : Type 0} (xs : List A) (i : ℕ) (x : A) → slice_get xs i ≡ Some x → i < length xs
within_list [] i x e = absurd (cc)
within_list (y ∷ xs) zero x e = omega arith
within_list (y ∷ xs) (suc i) x e = let low = within_list xs i x e in omega (arith, low)

pub contained : {A : Type 0} (xs : List A) (i : ℕ) (x : A) → slice_get xs i ≡ Some x → Contains xs x
contained xs i x e = (i, within_list xs i x e, get_or_from_slice_get xs i x x e)

-- the numbers from a place on
pub from_number : (n place : ℕ) → place < n
    → range_with_len place (n - place) ≡ place ∷ range_with_len (place + 1) (n - (place + 1))
from_number n place below =
    let left : n - place ≡ suc (n - (place + 1)) = omega (arith, below) in
    ap (range_with_len place) left

-- One more is counted where the test passes.
one_more : {A : Type 0} (p : A → Bool) (xs : List A) (x : A) (rest : List A) → xs ≡ x ∷ rest → p x ≡ true
    → length (filter p xs) ≡ suc (length (filter p rest))
one_more p xs x rest e passes =
    ap (λ xs. length (filter p xs)) e
    ∙ ap (λ (b : Bool). length (if b then x ∷ filter p rest else filter p rest)) passes

no_more : {A : Type 0} (p : A → Bool) (xs : List A) (x : A) (rest : List A) → xs ≡ x ∷ rest → p x ≡ false
    → length (filter p xs) ≡ length (filter p rest)
no_more p xs x rest e fails =
    ap (λ xs. length (filter p xs)) e
    ∙ ap (λ (b : Bool). length (if b then x ∷ filter p rest else filter p rest)) fails

-- so many were counted of a whole, and those in what is left are still to come
pub record IsCounted {A : Type 0} (p : A → Bool) (whole left : List A) (place count : ℕ) : Type 0 where
  pub sum : count + length (filter p left) ≡ length (filter p whole)
  pub few : count ≤ place

pub counts_begin : {A : Type 0} (p : A → Bool) (whole left : List A) → left ≡ whole → IsCounted p whole left 0 0
counts_begin p whole left e =
    let same : length (filter p left) ≡ length (filter p whole) = ap (λ xs. length (filter p xs)) e in
    record { sum = omega (arith, same); few = omega arith }

pub counts_on : {A : Type 0} (p : A → Bool) (whole left rest : List A) (place count n : ℕ) (x : A)
    → IsCounted p whole left place count → left ≡ x ∷ rest → n ≡ from_bool (p x)
    → IsCounted p whole rest (place + 1) (count + n)
counts_on p whole left rest place count n x so e one = decided (p x) refl
  where
    decided : (b : Bool) → p x ≡ b → IsCounted p whole rest (place + 1) (count + n)
    decided true is =
        let added : n ≡ 1 = one ∙ ap from_bool is in
        let more = one_more p left x rest e is in
        record { sum = omega (arith, so.sum, more, added); few = omega (arith, so.few, added) }
    decided false is =
        let added : n ≡ 0 = one ∙ ap from_bool is in
        let more = no_more p left x rest e is in
        record { sum = omega (arith, so.sum, more, added); few = omega (arith, so.few, added) }

pub counted_all : {A : Type 0} (p : A → Bool) (whole left : List A) (place count : ℕ)
    → IsCounted p whole left place count → left ≡ [] → count ≡ length (filter p whole)
counted_all p whole left place count so none =
    let left_over : length (filter p left) ≡ 0 = ap (λ xs. length (filter p xs)) none in
    omega (arith, so.sum, left_over)

-- The bytes of a region keep their count.
pub length_overwritten : (b : List ℕ) (offset : ℕ) (put : List ℕ) → offset + length put ≤ length b
    → length (overwritten b offset put) ≡ length b
length_overwritten b offset put within = simp (length-append, length-take, length-drop) (omega (arith, within))

pub length_behind : (id : ℕ) (b : List ℕ) (it : LogRecord)
    → (it.region ≡ id → it.offset + length it.bytes ≤ length b) → length (after_record id b it) ≡ length b
length_behind id b it within = decided (it.region == id) refl
  where
    decided : (t : Bool) → (it.region == id) ≡ t
        → length (if t then overwritten b it.offset it.bytes else b) ≡ length b
    decided true e = length_overwritten b it.offset it.bytes (within (eqb-true it.region id e))
    decided false e = refl
