-- The best of all candidates is the least spelling, and where there is none no bytes spell the instruction.
use Rattle.std.proofs.Common.{◌≡◌, ◌≢◌, ℕ, ◌≤◌, Bool, true, false, ◌&&◌, nat_eq, nat_le, nat_lt, List, [], length, take, refl, ap, sym, subst, ◌∙◌, arith, inl, inr}
use Rattle.std.specs.List.{list_all}
use Rattle.std.proofs.lemmas.Bool.{and_from, and_parts, cases_lt, eq-eqb, eqb-true, le-leb, leb-true}
use Rattle.std.proofs.lemmas.List.{take_all}
use Rattle.x86_decode.specs.declared.instruction.Instr.{Instr}
use Rattle.x86_decode.specs.declared.instruction.Decoded.{Decoded}
use Rattle.x86_decode.specs.declared.instruction.Decoded.TheVariants.{Whole, Short, TooLong, Unknown}
use Rattle.x86_decode.specs.Decoding.{Decodes, IsFront}
use Rattle.x86_decode.specs.Reader.{decoded_of}
use Rattle.x86_decode.specs.RowListLaws.{RowListLaws}
use Rattle.x86_decode.specs.Spelling.{IsLawful, Spells}
use Rattle.x86_decode.specs.SpellingLaws.{DecodingLaws}
use Rattle.asm_text.specs.Candidates.{best_of, candidates, is_spelled}
use Rattle.asm_text.specs.LeastSpelling.{IsLeastSpelling, is_not_behind}
use Rattle.asm_text.specs.Sameness.{is_instr, is_whole}
use Rattle.asm_text.proofs.Bests.{IsAhead, best_sound, best_tried}
use Rattle.asm_text.proofs.Cover.{Found, cover}
use Rattle.asm_text.proofs.Orders.{order_length, order_through, shorter}
use Rattle.asm_text.proofs.SamenessLaws.{instr_is, instr_same}
use Rattle.asm_text.proofs.TestedBytes.{bytes_pass, passed_are_bytes}

false_true : false ≡ true → ⊥
false_true h = cc

-- what the test of an answer says
whole_says : (instr : Instr) (bytes : List ℕ) (answer : Decoded) → is_whole instr (length bytes) answer ≡ true → Decodes bytes answer → Spells instr bytes
whole_says instr bytes (Whole other size) h right =
    let parts : (is_instr instr other ≡ true) × (nat_eq (length bytes) size ≡ true) = and_parts (is_instr instr other) (nat_eq (length bytes) size) h in
    let all : take size bytes ≡ bytes = take_all size bytes (omega (arith, eqb-true (length bytes) size parts.1)) in
    let P : List ℕ → Type 0 = λ b. Spells other b in
    let Q : Instr → Type 0 = λ i. Spells i bytes in
    subst Q (sym (instr_is instr other parts.0)) (subst P all right.lawful.spells)
whole_says instr bytes Short h right = absurd (false_true h)
whole_says instr bytes TooLong h right = absurd (false_true h)
whole_says instr bytes Unknown h right = absurd (false_true h)

-- the test is right
pub spelled_is : (laws : DecodingLaws) (instr : Instr) (bytes : List ℕ) → is_spelled instr bytes ≡ true → IsLawful instr bytes
unfolding is_spelled
spelled_is laws instr bytes h =
    let short_and_whole : Bool = nat_le (length bytes) 15 && is_whole instr (length bytes) (decoded_of bytes) in
    let both : (list_all (λ byte. nat_lt byte 256) bytes ≡ true) × (short_and_whole ≡ true) = and_parts (list_all (λ byte. nat_lt byte 256) bytes) short_and_whole h in
    let parts : (nat_le (length bytes) 15 ≡ true) × (is_whole instr (length bytes) (decoded_of bytes) ≡ true) = and_parts (nat_le (length bytes) 15) (is_whole instr (length bytes) (decoded_of bytes)) both.1 in
    let few : length bytes ≤ 15 = leb-true (length bytes) 15 parts.0 in
    record { spells = whole_says instr bytes (decoded_of bytes) parts.1 (laws.right bytes (passed_are_bytes bytes both.0) few); few = few }

-- and finds each spelling
spelled_by : (laws : DecodingLaws) (instr : Instr) (bytes : List ℕ) → Spells instr bytes → length bytes ≤ 15 → is_spelled instr bytes ≡ true
unfolding is_spelled
spelled_by laws instr bytes spells few =
    let size : ℕ = length bytes in
    let all : take size bytes ≡ bytes = take_all size bytes (omega arith) in
    let P : List ℕ → Type 0 = λ b. IsLawful instr b in
    let front : IsFront instr bytes size = record { within = omega arith; lawful = subst P (sym all) (record { spells = spells; few = few }) } in
    let same : Whole instr size ≡ decoded_of bytes = laws.only bytes (Whole instr size) spells.are_bytes few front in
    and_from (list_all (λ byte. nat_lt byte 256) bytes) (nat_le size 15 && is_whole instr size (decoded_of bytes)) (bytes_pass bytes spells.are_bytes)
    (and_from (nat_le size 15) (is_whole instr size (decoded_of bytes)) (le-leb size 15 few)
    (ap (is_whole instr size) (sym same) ∙ and_from (is_instr instr instr) (nat_eq size size) (instr_same instr) (eq-eqb size size refl)))

abbrev pub best : Instr → List ℕ
best instr = best_of instr [] (candidates instr)

-- of at most 15 bytes none spells the instruction before the best
best_ahead : (laws : DecodingLaws) (rows : RowListLaws) (instr : Instr) (bytes : List ℕ) → Spells instr bytes → length bytes ≤ 15 → IsAhead (best instr) bytes
best_ahead laws rows instr bytes spells few =
    let f : Found instr bytes = cover rows instr bytes spells in
    let short : length f.found ≤ 15 = omega (arith, order_length f.found bytes f.ahead) in
    let is : IsAhead (best instr) f.found = best_tried instr [] (candidates instr) f.found f.tried (spelled_by laws instr f.found f.spells short) in
    record { some = is.some; ahead = order_through (best instr) f.found bytes is.ahead f.ahead }

best_spelled : (instr : Instr) → best instr ≢ [] → is_spelled instr (best instr) ≡ true
best_spelled instr some = elim (best_sound instr [] (candidates instr) (inl refl)) [
  | inl none ↦ absurd (some none)
  | inr spells ↦ spells
]

pub least_is : (laws : DecodingLaws) (rows : RowListLaws) (instr : Instr) (bytes : List ℕ) → bytes ≡ best instr → bytes ≢ [] → IsLeastSpelling instr bytes
least_is laws rows instr bytes is some =
    let P : List ℕ → Type 0 = λ b. b ≢ [] in
    let Q : List ℕ → Type 0 = λ b. is_spelled instr b ≡ true in
    let lawful : IsLawful instr bytes = spelled_is laws instr bytes (subst Q (sym is) (best_spelled instr (subst P is some))) in
    record {
      lawful = lawful;
      least = λ other spells. elim (cases_lt 15 (length other)) [
        | inl longer ↦ shorter bytes other (omega (arith, lawful.few))
        | inr few ↦ subst (λ (b : List ℕ). is_not_behind b other ≡ true) (sym is) (best_ahead laws rows instr other spells few).ahead
      ];
    }

pub none_spells : (laws : DecodingLaws) (rows : RowListLaws) (instr : Instr) → best instr ≡ [] → (bytes : List ℕ) → IsLawful instr bytes → ⊥
none_spells laws rows instr none bytes lawful = (best_ahead laws rows instr bytes lawful.spells lawful.few).some none
