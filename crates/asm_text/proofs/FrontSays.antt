-- The least prefix bytes say what they were made of.
use Rattle.std.proofs.Common.{◌≡◌, ℕ, ◌+◌, ◌-◌, ◌<◌, Bool, true, false, ◌&&◌, nat_lt, Option, Some, None, List, [], ◌∷◌, length, refl, ap, subst, ◌∙◌, arith}
use Rattle.std.specs.List.{list_all}
use Rattle.std.proofs.lemmas.Bool.{agree_below_at, and_parts, ltb-true}
use Rattle.std.proofs.lemmas.List.Elements.{All-cons, All-nil}
use Rattle.decode_fields.specs.declared.parts.Prefixes.{Prefixes}
use Rattle.decode_fields.specs.declared.parts.Rep.{Rep}
use Rattle.decode_fields.specs.declared.parts.Rep.TheVariants.{No, WhileEqual, WhileNot}
use Rattle.decode_fields.specs.Prefixes.{is_prefix, prefixes_of}
use Rattle.x86_decode.specs.Spelling.{AreBytes}
use Rattle.asm_text.specs.Skipping.{IsRexOption}
use Rattle.asm_text.specs.Assembly.{front_of}
use Rattle.asm_text.specs.Sameness.{is_flag, is_number, is_rep}
use Rattle.asm_text.proofs.SamenessLaws.{flag_is, number_is, rep_is}

abbrev says_so : Prefixes → Bool → Bool → Rep → Option ℕ → Bool
says_so prefixes narrow lock rep rex =
    is_flag prefixes.narrow narrow && (is_flag prefixes.lock lock && (is_rep prefixes.rep rep && is_number prefixes.rex rex))

abbrev is_byte : ℕ → Bool
is_byte byte = nat_lt byte 256

abbrev says : Bool → Bool → Rep → Option ℕ → Bool
says narrow lock rep rex =
    list_all is_byte (front_of narrow lock rep rex)
    && (list_all is_prefix (front_of narrow lock rep rex) && says_so (prefixes_of (front_of narrow lock rep rex)) narrow lock rep rex)

without : (narrow lock : Bool) (rep : Rep) → says narrow lock rep None ≡ true
without false false No = refl
without false false WhileEqual = refl
without false false WhileNot = refl
without false true No = refl
without false true WhileEqual = refl
without false true WhileNot = refl
without true false No = refl
without true false WhileEqual = refl
without true false WhileNot = refl
without true true No = refl
without true true WhileEqual = refl
without true true WhileNot = refl

abbrev says_at : Bool → Bool → Rep → ℕ → Bool
says_at narrow lock rep low = says narrow lock rep (Some (0x40 + low))

abbrev yes_at : ℕ → Bool
yes_at low = true

with_rex : (narrow lock : Bool) (rep : Rep) (low : ℕ) → low < 16 → says narrow lock rep (Some (0x40 + low)) ≡ true
with_rex false false No low small = agree_below_at (says_at false false No) yes_at 16 low refl small
with_rex false false WhileEqual low small = agree_below_at (says_at false false WhileEqual) yes_at 16 low refl small
with_rex false false WhileNot low small = agree_below_at (says_at false false WhileNot) yes_at 16 low refl small
with_rex false true No low small = agree_below_at (says_at false true No) yes_at 16 low refl small
with_rex false true WhileEqual low small = agree_below_at (says_at false true WhileEqual) yes_at 16 low refl small
with_rex false true WhileNot low small = agree_below_at (says_at false true WhileNot) yes_at 16 low refl small
with_rex true false No low small = agree_below_at (says_at true false No) yes_at 16 low refl small
with_rex true false WhileEqual low small = agree_below_at (says_at true false WhileEqual) yes_at 16 low refl small
with_rex true false WhileNot low small = agree_below_at (says_at true false WhileNot) yes_at 16 low refl small
with_rex true true No low small = agree_below_at (says_at true true No) yes_at 16 low refl small
with_rex true true WhileEqual low small = agree_below_at (says_at true true WhileEqual) yes_at 16 low refl small
with_rex true true WhileNot low small = agree_below_at (says_at true true WhileNot) yes_at 16 low refl small

says_all : (narrow lock : Bool) (rep : Rep) (rex : Option ℕ) → IsRexOption rex → says narrow lock rep rex ≡ true
says_all narrow lock rep None is = without narrow lock rep
says_all narrow lock rep (Some rex) is =
    let low : 0x40 + (rex - 0x40) ≡ rex = omega (arith, is.0) in
    let P : ℕ → Type 0 = λ r. says narrow lock rep (Some r) ≡ true in
    subst P low (with_rex narrow lock rep (rex - 0x40) (omega (arith, is.0, is.1)))

abbrev pub prefixes_by : ℕ → Bool → Bool → Rep → Option ℕ → Prefixes
prefixes_by count narrow lock rep rex = record { length = count; narrow = narrow; lock = lock; rep = rep; rex = rex }

same_prefixes : (prefixes : Prefixes) (narrow lock : Bool) (rep : Rep) (rex : Option ℕ) → says_so prefixes narrow lock rep rex ≡ true → prefixes ≡ prefixes_by prefixes.length narrow lock rep rex
same_prefixes prefixes narrow lock rep rex h =
    let one : (is_flag prefixes.narrow narrow ≡ true) × ((is_flag prefixes.lock lock && (is_rep prefixes.rep rep && is_number prefixes.rex rex)) ≡ true) = and_parts (is_flag prefixes.narrow narrow) (is_flag prefixes.lock lock && (is_rep prefixes.rep rep && is_number prefixes.rex rex)) h in
    let two : (is_flag prefixes.lock lock ≡ true) × ((is_rep prefixes.rep rep && is_number prefixes.rex rex) ≡ true) = and_parts (is_flag prefixes.lock lock) (is_rep prefixes.rep rep && is_number prefixes.rex rex) one.1 in
    let three : (is_rep prefixes.rep rep ≡ true) × (is_number prefixes.rex rex ≡ true) = and_parts (is_rep prefixes.rep rep) (is_number prefixes.rex rex) two.1 in
    ap (λ n. prefixes_by prefixes.length n prefixes.lock prefixes.rep prefixes.rex) (flag_is prefixes.narrow narrow one.0)
    ∙ (ap (λ l. prefixes_by prefixes.length narrow l prefixes.rep prefixes.rex) (flag_is prefixes.lock lock two.0)
    ∙ (ap (λ r. prefixes_by prefixes.length narrow lock r prefixes.rex) (rep_is prefixes.rep rep three.0)
    ∙ ap (prefixes_by prefixes.length narrow lock rep) (number_is prefixes.rex rex three.1)))

abbrev rest_says : Bool → Bool → Rep → Option ℕ → Bool
rest_says narrow lock rep rex =
    list_all is_prefix (front_of narrow lock rep rex) && says_so (prefixes_of (front_of narrow lock rep rex)) narrow lock rep rex

rest_holds : (narrow lock : Bool) (rep : Rep) (rex : Option ℕ) → IsRexOption rex → rest_says narrow lock rep rex ≡ true
rest_holds narrow lock rep rex is =
    (and_parts (list_all is_byte (front_of narrow lock rep rex)) (rest_says narrow lock rep rex) (says_all narrow lock rep rex is)).1

-- each of them is a prefix byte
pub front_all : (narrow lock : Bool) (rep : Rep) (rex : Option ℕ) → IsRexOption rex → list_all is_prefix (front_of narrow lock rep rex) ≡ true
front_all narrow lock rep rex is =
    (and_parts (list_all is_prefix (front_of narrow lock rep rex)) (says_so (prefixes_of (front_of narrow lock rep rex)) narrow lock rep rex) (rest_holds narrow lock rep rex is)).0

bytes_from : (bytes : List ℕ) → list_all is_byte bytes ≡ true → AreBytes bytes
bytes_from [] h = All-nil (λ b. b < 256)
bytes_from (byte ∷ bytes) h =
    let parts : (is_byte byte ≡ true) × (list_all is_byte bytes ≡ true) = and_parts (is_byte byte) (list_all is_byte bytes) h in
    All-cons (λ b. b < 256) byte bytes (ltb-true byte 256 parts.0) (bytes_from bytes parts.1)

-- and a byte
pub front_are : (narrow lock : Bool) (rep : Rep) (rex : Option ℕ) → IsRexOption rex → AreBytes (front_of narrow lock rep rex)
front_are narrow lock rep rex is =
    bytes_from (front_of narrow lock rep rex)
    ((and_parts (list_all is_byte (front_of narrow lock rep rex)) (rest_says narrow lock rep rex) (says_all narrow lock rep rex is)).0)

-- together they say what they were made of
pub front_says : (narrow lock : Bool) (rep : Rep) (rex : Option ℕ) → IsRexOption rex → prefixes_of (front_of narrow lock rep rex) ≡ prefixes_by (length (front_of narrow lock rep rex)) narrow lock rep rex
front_says narrow lock rep rex is =
    same_prefixes (prefixes_of (front_of narrow lock rep rex)) narrow lock rep rex
    ((and_parts (list_all is_prefix (front_of narrow lock rep rex)) (says_so (prefixes_of (front_of narrow lock rep rex)) narrow lock rep rex) (rest_holds narrow lock rep rex is)).1)
