-- A name in form is text.
use Rattle.std.proofs.Common.{◌≡◌, ℕ, ◌<◌, ◌==◌, true, ◌&&◌, List, length, inl, inr, arith}
use Rattle.std.specs.Prelude.{nat_le, nat_lt, ◌||◌}
use Rattle.std.specs.List.{list_all}
use Rattle.std.specs.Str.{IsUtf8}
use Rattle.std.proofs.lemmas.Bool.{and_parts, eqb-true, leb-true, or_cases}
use Rattle.std.proofs.lemmas.List.Elements.{All-weaker}
use Rattle.std.proofs.lemmas.List.Sums.{AllPass-from_list_all}
use Rattle.std.proofs.lemmas.Str.{IsUtf8-from_ascii}
use Rattle.std.proofs.lemmas.Str.Ascii.{IsAscii-from_all}
use Rattle.code_modules.specs.ModuleList.{is_module_name, is_name_byte}

low_byte : (c : ℕ) → is_name_byte c ≡ true → c < 128
low_byte c h = elim (or_cases (nat_le 97 c && nat_le c 122) ((nat_le 48 c && nat_le c 57) || (c == 95 || (c == 46 || c == 45))) h) [
  | inl letter ↦ let most = leb-true c 122 (and_parts (nat_le 97 c) (nat_le c 122) letter).1 in omega arith
  | inr other ↦ elim (or_cases (nat_le 48 c && nat_le c 57) (c == 95 || (c == 46 || c == 45)) other) [
    | inl digit ↦ let most = leb-true c 57 (and_parts (nat_le 48 c) (nat_le c 57) digit).1 in omega arith
    | inr mark ↦ elim (or_cases (c == 95) (c == 46 || c == 45) mark) [
      | inl low_line ↦ let is = eqb-true c 95 low_line in omega arith
      | inr last ↦ elim (or_cases (c == 46) (c == 45) last) [
        | inl stop ↦ let is = eqb-true c 46 stop in omega arith
        | inr hyphen ↦ let is = eqb-true c 45 hyphen in omega arith
      ]
    ]
  ]
]

pub name_text : (name : List ℕ) → is_module_name name ≡ true → IsUtf8 name
name_text name form =
    let bytes = (and_parts (nat_lt 0 (length name) && nat_le (length name) 64) (list_all is_name_byte name) form).1 in
    IsUtf8-from_ascii name (IsAscii-from_all name
    (All-weaker (λ c. is_name_byte c ≡ true) (λ c. c < 128) low_byte name (AllPass-from_list_all is_name_byte name bytes)))
