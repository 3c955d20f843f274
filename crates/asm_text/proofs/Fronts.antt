-- Of any prefix bytes: those that say the same and no more aren't behind them. By their first byte, with no counting.
use Rattle.std.proofs.Common.{◌≡◌, ℕ, suc, ◌-◌, ◌≤◌, Bool, true, false, ◌||◌, cond, nat_eq, Option, Some, None, List, [], ◌∷◌, length, reverse, slice_get, refl, ap, sym, subst, ◌∙◌, arith, inl, inr}
use Rattle.std.specs.Prelude.{find}
use Rattle.std.specs.List.{list_any}
use Rattle.std.specs.Option.{option_or}
use Rattle.std.proofs.lemmas.Bool.{cases_Bool, eqb-true, or_cases}
use Rattle.std.proofs.lemmas.List.{reverse-append}
use Rattle.std.proofs.lemmas.List.Folds.{find-append}
use Rattle.decode_fields.specs.declared.parts.Prefixes.{Prefixes}
use Rattle.decode_fields.specs.declared.parts.Rep.{Rep}
use Rattle.decode_fields.specs.declared.parts.Rep.TheVariants.{No, WhileEqual, WhileNot}
use Rattle.decode_fields.specs.Prefixes.{is_repeat, is_rex, prefixes_of, rep_named, rep_of, rex_named, rex_of}
use Rattle.x86_decode.specs.declared.operation.Op.{Op}
use Rattle.x86_decode.specs.Meaning.{is_string, rep_by}
use Rattle.asm_text.specs.Assembly.{front_of}
use Rattle.asm_text.specs.LeastSpelling.{is_not_behind}
use Rattle.asm_text.proofs.Orders.{order_cons, order_length, order_less, order_longer, order_same, order_through}

-- what a byte asks for, if it is a repeat prefix, and the last of a list that is
abbrev repeat_byte : ℕ → Option ℕ
repeat_byte byte = cond (is_repeat byte) (Some byte) None

abbrev last_repeat : List ℕ → Option ℕ
last_repeat [] = None
last_repeat (byte ∷ front) = option_or (last_repeat front) (repeat_byte byte)

last_is : (front : List ℕ) → find is_repeat (reverse front) ≡ last_repeat front
last_is [] = refl
last_is (byte ∷ front) =
    ap (find is_repeat) (reverse-append (byte ∷ []) front)
    ∙ (find-append is_repeat (reverse front) (byte ∷ [])
    ∙ ap (λ o. option_or o (repeat_byte byte)) (last_is front))

or_none : (o : Option ℕ) → option_or o None ≡ o
or_none None = refl
or_none (Some byte) = refl

-- the bytes that say so much, with the repeat prefix that counts and without one, aren't behind these
record IsLeastFront (narrow lock : Bool) (repeat rex : Option ℕ) (front : List ℕ) : Type 0 where
  named : is_not_behind (front_of narrow lock (rep_named repeat) rex) front ≡ true
  none : is_not_behind (front_of narrow lock No rex) front ≡ true

-- a byte in front that says nothing new
longer : (narrow lock : Bool) (repeat rex : Option ℕ) (front : List ℕ) (byte : ℕ) → IsLeastFront narrow lock repeat rex front → IsLeastFront narrow lock repeat rex (byte ∷ front)
longer narrow lock repeat rex front byte least = record {
  named = order_longer (front_of narrow lock (rep_named repeat) rex) front byte least.named;
  none = order_longer (front_of narrow lock No rex) front byte least.none;
}

-- 66 in front
size_first : (narrow lock : Bool) (repeat rex : Option ℕ) (front : List ℕ) → IsLeastFront narrow lock repeat rex front → IsLeastFront true lock repeat rex (0x66 ∷ front)
size_first true lock repeat rex front least = longer true lock repeat rex front 0x66 least
size_first false lock repeat rex front least = record {
  named = order_cons 0x66 (front_of false lock (rep_named repeat) rex) front least.named;
  none = order_cons 0x66 (front_of false lock No rex) front least.none;
}

-- F0 in front: behind 66
lock_one : (narrow : Bool) (rep : Rep) (rex : Option ℕ) (front : List ℕ) → is_not_behind (front_of narrow false rep rex) front ≡ true → is_not_behind (front_of narrow true rep rex) (0xF0 ∷ front) ≡ true
lock_one false rep rex front least = order_cons 0xF0 (front_of false false rep rex) front least
lock_one true rep rex front least =
    let fits : length (front_of false true rep rex) ≤ length front = order_length (front_of true false rep rex) front least in
    order_less 0x66 0xF0 (front_of false true rep rex) front fits (omega arith)

lock_first : (narrow lock : Bool) (repeat rex : Option ℕ) (front : List ℕ) → IsLeastFront narrow lock repeat rex front → IsLeastFront narrow true repeat rex (0xF0 ∷ front)
lock_first narrow true repeat rex front least = longer narrow true repeat rex front 0xF0 least
lock_first narrow false repeat rex front least = record {
  named = lock_one narrow (rep_named repeat) rex front least.named;
  none = lock_one narrow No rex front least.none;
}

-- a repeat prefix in front, which counts where no other follows: behind 66 and F0
equal_one : (narrow lock : Bool) (rex : Option ℕ) (front : List ℕ) → is_not_behind (front_of narrow lock No rex) front ≡ true → is_not_behind (front_of narrow lock WhileEqual rex) (0xF3 ∷ front) ≡ true
equal_one false false rex front least = order_cons 0xF3 (front_of false false No rex) front least
equal_one false true rex front least =
    let fits : length (front_of false false WhileEqual rex) ≤ length front = order_length (front_of false true No rex) front least in
    order_less 0xF0 0xF3 (front_of false false WhileEqual rex) front fits (omega arith)
equal_one true false rex front least =
    let fits : length (front_of false false WhileEqual rex) ≤ length front = order_length (front_of true false No rex) front least in
    order_less 0x66 0xF3 (front_of false false WhileEqual rex) front fits (omega arith)
equal_one true true rex front least =
    let fits : length (front_of false true WhileEqual rex) ≤ length front = order_length (front_of true true No rex) front least in
    order_less 0x66 0xF3 (front_of false true WhileEqual rex) front fits (omega arith)

not_one : (narrow lock : Bool) (rex : Option ℕ) (front : List ℕ) → is_not_behind (front_of narrow lock No rex) front ≡ true → is_not_behind (front_of narrow lock WhileNot rex) (0xF2 ∷ front) ≡ true
not_one false false rex front least = order_cons 0xF2 (front_of false false No rex) front least
not_one false true rex front least =
    let fits : length (front_of false false WhileNot rex) ≤ length front = order_length (front_of false true No rex) front least in
    order_less 0xF0 0xF2 (front_of false false WhileNot rex) front fits (omega arith)
not_one true false rex front least =
    let fits : length (front_of false false WhileNot rex) ≤ length front = order_length (front_of true false No rex) front least in
    order_less 0x66 0xF2 (front_of false false WhileNot rex) front fits (omega arith)
not_one true true rex front least =
    let fits : length (front_of false true WhileNot rex) ≤ length front = order_length (front_of true true No rex) front least in
    order_less 0x66 0xF2 (front_of false true WhileNot rex) front fits (omega arith)

equal_first : (narrow lock : Bool) (repeat rex : Option ℕ) (front : List ℕ) → IsLeastFront narrow lock repeat rex front → IsLeastFront narrow lock (option_or repeat (Some 0xF3)) rex (0xF3 ∷ front)
equal_first narrow lock (Some last) rex front least = longer narrow lock (Some last) rex front 0xF3 least
equal_first narrow lock None rex front least = record {
  named = equal_one narrow lock rex front least.none;
  none = order_longer (front_of narrow lock No rex) front 0xF3 least.none;
}

not_first : (narrow lock : Bool) (repeat rex : Option ℕ) (front : List ℕ) → IsLeastFront narrow lock repeat rex front → IsLeastFront narrow lock (option_or repeat (Some 0xF2)) rex (0xF2 ∷ front)
not_first narrow lock (Some last) rex front least = longer narrow lock (Some last) rex front 0xF2 least
not_first narrow lock None rex front least = record {
  named = not_one narrow lock rex front least.none;
  none = order_longer (front_of narrow lock No rex) front 0xF2 least.none;
}

-- what a byte in front of others makes of what they say
abbrev Grown : ℕ → Bool → Bool → Option ℕ → Option ℕ → List ℕ → Type 0
Grown byte narrow lock repeat rex front =
    IsLeastFront (nat_eq byte 0x66 || narrow) (nat_eq byte 0xF0 || lock) (option_or repeat (repeat_byte byte)) rex (byte ∷ front)

-- a byte that is none of the four
plain_first : (byte : ℕ) (narrow lock : Bool) (repeat rex : Option ℕ) (front : List ℕ) → nat_eq byte 0x66 ≡ false → nat_eq byte 0xF0 ≡ false → is_repeat byte ≡ false → IsLeastFront narrow lock repeat rex (byte ∷ front) → Grown byte narrow lock repeat rex front
plain_first byte narrow lock repeat rex front size locks repeats least =
    let P : Bool → Type 0 = λ b. IsLeastFront (b || narrow) (nat_eq byte 0xF0 || lock) (option_or repeat (repeat_byte byte)) rex (byte ∷ front) in
    let Q : Bool → Type 0 = λ b. IsLeastFront narrow (b || lock) (option_or repeat (repeat_byte byte)) rex (byte ∷ front) in
    let R : Bool → Type 0 = λ b. IsLeastFront narrow lock (option_or repeat (cond b (Some byte) None)) rex (byte ∷ front) in
    let S : Option ℕ → Type 0 = λ o. IsLeastFront narrow lock o rex (byte ∷ front) in
    subst P (sym size) (subst Q (sym locks) (subst R (sym repeats) (subst S (sym (or_none repeat)) least)))

-- the four bytes that say something, and the others
byte_cases : (P : ℕ → Type 0) (byte : ℕ) → P 0x66 → P 0xF0 → P 0xF2 → P 0xF3 → (nat_eq byte 0x66 ≡ false → nat_eq byte 0xF0 ≡ false → is_repeat byte ≡ false → P byte) → P byte
byte_cases P byte size locks not_equal equal other = elim (cases_Bool (nat_eq byte 0x66)) [
  | inl is ↦ subst P (sym (eqb-true byte 0x66 is)) size
  | inr not_size ↦ elim (cases_Bool (nat_eq byte 0xF0)) [
    | inl is ↦ subst P (sym (eqb-true byte 0xF0 is)) locks
    | inr not_lock ↦ elim (cases_Bool (is_repeat byte)) [
      | inl is ↦ elim (or_cases (nat_eq byte 0xF2) (nat_eq byte 0xF3) is) [
        | inl two ↦ subst P (sym (eqb-true byte 0xF2 two)) not_equal
        | inr three ↦ subst P (sym (eqb-true byte 0xF3 three)) equal
      ]
      | inr not_repeat ↦ other not_size not_lock not_repeat
    ]
  ]
]

grown : (byte : ℕ) (narrow lock : Bool) (repeat rex : Option ℕ) (front : List ℕ) → IsLeastFront narrow lock repeat rex front → Grown byte narrow lock repeat rex front
grown byte narrow lock repeat rex front least =
    let P : Option ℕ → Type 0 = λ o. IsLeastFront true lock o rex (0x66 ∷ front) in
    let Q : Option ℕ → Type 0 = λ o. IsLeastFront narrow true o rex (0xF0 ∷ front) in
    byte_cases (λ b. Grown b narrow lock repeat rex front) byte
    (subst P (sym (or_none repeat)) (size_first narrow lock repeat rex front least))
    (subst Q (sym (or_none repeat)) (lock_first narrow lock repeat rex front least))
    (not_first narrow lock repeat rex front least)
    (equal_first narrow lock repeat rex front least)
    (λ size locks repeats. plain_first byte narrow lock repeat rex front size locks repeats (longer narrow lock repeat rex front byte least))

-- a last byte that is none of the four: REX, or one that says nothing
other_last : (byte : ℕ) → IsLeastFront false false None (rex_named (Some byte)) (byte ∷ [])
other_last byte = elim (cases_Bool (is_rex byte)) [
  | inl is ↦
      let P : Bool → Type 0 = λ b. IsLeastFront false false None (cond b (Some byte) None) (byte ∷ []) in
      subst P (sym is) (record { named = order_same (byte ∷ []); none = order_same (byte ∷ []) })
  | inr no_rex ↦
      let P : Bool → Type 0 = λ b. IsLeastFront false false None (cond b (Some byte) None) (byte ∷ []) in
      subst P (sym no_rex) (record { named = refl; none = refl })
]

last_byte : (byte : ℕ) → Grown byte false false None (rex_named (Some byte)) []
last_byte byte = byte_cases (λ b. Grown b false false None (rex_named (Some b)) []) byte
    (record { named = refl; none = refl })
    (record { named = refl; none = refl })
    (record { named = refl; none = refl })
    (record { named = refl; none = refl })
    (λ size locks repeats. plain_first byte false false None (rex_named (Some byte)) [] size locks repeats (other_last byte))

-- REX counts as the last byte alone, whatever stands in front
rex_behind : (byte next : ℕ) (front : List ℕ) → rex_of (byte ∷ (next ∷ front)) ≡ rex_of (next ∷ front)
rex_behind byte next front =
    let e : suc (suc (length front)) - 1 ≡ suc (suc (length front) - 1) = omega arith in
    ap (λ k. rex_named (slice_get (byte ∷ (next ∷ front)) k)) e

least_front : (front : List ℕ) → IsLeastFront (list_any (λ byte. nat_eq byte 0x66) front) (list_any (λ byte. nat_eq byte 0xF0) front) (last_repeat front) (rex_of front) front
least_front [] = record { named = refl; none = refl }
least_front (byte ∷ []) = last_byte byte
least_front (byte ∷ (next ∷ front)) =
    let P : Option ℕ → Type 0 = λ r. Grown byte (list_any (λ b. nat_eq b 0x66) (next ∷ front)) (list_any (λ b. nat_eq b 0xF0) (next ∷ front)) (last_repeat (next ∷ front)) r (next ∷ front) in
    subst P (sym (rex_behind byte next front))
    (grown byte (list_any (λ b. nat_eq b 0x66) (next ∷ front)) (list_any (λ b. nat_eq b 0xF0) (next ∷ front)) (last_repeat (next ∷ front)) (rex_of (next ∷ front)) (next ∷ front) (least_front (next ∷ front)))

abbrev said_front : Prefixes → Rep → List ℕ
said_front prefixes rep = front_of prefixes.narrow prefixes.lock rep prefixes.rex

-- the bytes that say what counts with an operation
pub front_least : (op : Op) (front : List ℕ) → is_not_behind (said_front (prefixes_of front) (rep_by op (prefixes_of front))) front ≡ true
front_least op front =
    let least : IsLeastFront (list_any (λ byte. nat_eq byte 0x66) front) (list_any (λ byte. nat_eq byte 0xF0) front) (last_repeat front) (rex_of front) front = least_front front in
    let P : Rep → Type 0 = λ r. is_not_behind (said_front (prefixes_of front) r) front ≡ true in
    let all : P (rep_of front) = subst (λ (o : Option ℕ). P (rep_named o)) (sym (last_is front)) least.named in
    elim (is_string op) as (λ b. P (cond b (rep_of front) No)) [ true ↦ all | false ↦ least.none ]

-- without 66 and REX there is less in front
bare : (narrow lock : Bool) (rex : Option ℕ) → is_not_behind (front_of false lock No None) (front_of narrow lock No rex) ≡ true
bare false false None = refl
bare false false (Some byte) = refl
bare false true None = refl
bare false true (Some byte) = refl
bare true false None = refl
bare true false (Some byte) = refl
bare true true None = refl
bare true true (Some byte) = refl

-- LOCK alone
pub front_bare : (front : List ℕ) → is_not_behind (front_of false (list_any (λ byte. nat_eq byte 0xF0) front) No None) front ≡ true
front_bare front =
    let narrow : Bool = list_any (λ byte. nat_eq byte 0x66) front in
    let lock : Bool = list_any (λ byte. nat_eq byte 0xF0) front in
    let least : IsLeastFront narrow lock (last_repeat front) (rex_of front) front = least_front front in
    order_through (front_of false lock No None) (front_of narrow lock No (rex_of front)) front (bare narrow lock (rex_of front)) least.none
