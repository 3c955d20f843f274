-- Places are read back from their texts.
use Rattle.std.proofs.Common.{◌≡◌, ℕ, ◌^◌, ◌<◌, Bool, true, false, List, [], ◌∷◌, ◌++◌, refl, sym, ap, ◌∙◌}
use Rattle.std.specs.Prelude.{None, Some, Option, IfSome, if◌then◌else◌, codes, decimal}
use Rattle.decode_fields.specs.declared.place.Address.{Address}
use Rattle.decode_fields.specs.declared.place.Place.{Place}
use Rattle.decode_fields.specs.declared.place.Place.TheVariants.{Nothing, Reg, High, Mem, Value}
use Rattle.asm_text.specs.InstructionTexts.{HasAddressText, HasPlaceText, base_text, hex_digits, place_text, register_text}
use Rattle.asm_text.specs.ParsedTexts.{address_said, base_said, byte_said, bytes_past, bytes_to, is_next, number_said, place_said, register_said}
use Rattle.asm_text.proofs.ReadNumbers.{byte_back, byte_digits, byte_lacks, digits_no_rip, hex_back, hex_lacks}
use Rattle.asm_text.proofs.WordMarks.{cut_past, cut_to, lacks, lacks_append}

register_back : (register : Option ℕ) → IfSome register (λ number. number < 2 ^ 8)
    → register_said (register_text register) ≡ register
register_back None small = refl
register_back (Some number) small = ap (λ n. Some n) (byte_back number small)

next_back : (rip : Bool) (base : Option ℕ) → IfSome base (λ number. number < 2 ^ 8)
    → is_next (if rip then codes "rip" else register_text base) ≡ rip
next_back true base small = refl
next_back false None small = refl
next_back false (Some number) small = digits_no_rip (decimal number) (byte_digits number small)

base_back : (rip : Bool) (base : Option ℕ) → IfSome base (λ number. number < 2 ^ 8) → (rip ≡ true → base ≡ None)
    → base_said (if rip then codes "rip" else register_text base) ≡ base
base_back true base small alone = sym (alone refl)
base_back false base small alone =
    (λ i. if next_back false base small i then None else register_said (register_text base)) ∙ register_back base small

-- a comma and a space aren't in the words of an address
register_no_comma : (register : Option ℕ) → IfSome register (λ number. number < 2 ^ 8) → lacks 44 (register_text register) ≡ true
register_no_comma None small = refl
register_no_comma (Some number) small = byte_lacks 44 number small refl

register_no_space : (register : Option ℕ) → IfSome register (λ number. number < 2 ^ 8) → lacks 32 (register_text register) ≡ true
register_no_space None small = refl
register_no_space (Some number) small = byte_lacks 32 number small refl

base_no_comma : (rip : Bool) (base : Option ℕ) → IfSome base (λ number. number < 2 ^ 8)
    → lacks 44 (if rip then codes "rip" else register_text base) ≡ true
base_no_comma true base small = refl
base_no_comma false base small = register_no_comma base small

base_no_space : (rip : Bool) (base : Option ℕ) → IfSome base (λ number. number < 2 ^ 8)
    → lacks 32 (if rip then codes "rip" else register_text base) ≡ true
base_no_space true base small = refl
base_no_space false base small = register_no_space base small

-- an address by its words
abbrev address_of_words : List ℕ → List ℕ → List ℕ → List ℕ → Address
address_of_words first second third last = record {
  base = base_said first;
  index = register_said second;
  scale = byte_said third;
  disp = number_said last;
  rip = is_next first;
}

-- four words with marks behind them
address_words : (first second third last : List ℕ) → lacks 44 first ≡ true → lacks 44 second ≡ true
    → lacks 44 third ≡ true → lacks 93 last ≡ true
    → address_said (first ++ (44 ∷ (second ++ (44 ∷ (third ++ (44 ∷ (last ++ (93 ∷ []))))))))
    ≡ address_of_words first second third last
unfolding address_said
address_words first second third last one two three four =
    let behind_third = last ++ (93 ∷ []) in
    let behind_second = third ++ (44 ∷ behind_third) in
    let behind_first = second ++ (44 ∷ behind_second) in
    let text = first ++ (44 ∷ behind_first) in
    let to_second : bytes_past 44 text ≡ behind_first = cut_past 44 first behind_first one in
    let to_third : bytes_past 44 (bytes_past 44 text) ≡ behind_second =
    ap (bytes_past 44) to_second ∙ cut_past 44 second behind_second two in
    let to_last : bytes_past 44 (bytes_past 44 (bytes_past 44 text)) ≡ behind_third =
    ap (bytes_past 44) to_third ∙ cut_past 44 third behind_third three in
    let first_is : bytes_to 44 text ≡ first = cut_to 44 first behind_first one in
    let second_is : bytes_to 44 (bytes_past 44 text) ≡ second =
    ap (bytes_to 44) to_second ∙ cut_to 44 second behind_second two in
    let third_is : bytes_to 44 (bytes_past 44 (bytes_past 44 text)) ≡ third =
    ap (bytes_to 44) to_third ∙ cut_to 44 third behind_third three in
    let last_is : bytes_to 93 (bytes_past 44 (bytes_past 44 (bytes_past 44 text))) ≡ last =
    ap (bytes_to 93) to_last ∙ cut_to 93 last [] four in
    λ i. address_of_words (first_is i) (second_is i) (third_is i) (last_is i)

address_back : (address : Address) → HasAddressText address
    → address_said (base_text address ++ (44 ∷ (register_text address.index ++ (44 ∷ (decimal address.scale
    ++ (44 ∷ (hex_digits address.disp ++ (93 ∷ []))))))))
    ≡ address
address_back address has =
    address_words (base_text address) (register_text address.index) (decimal address.scale) (hex_digits address.disp)
    (base_no_comma address.rip address.base has.base) (register_no_comma address.index has.index)
    (byte_lacks 44 address.scale has.scale refl) (hex_lacks 93 address.disp has.disp refl)
    ∙ (λ i. record {
      base = base_back address.rip address.base has.base has.alone i;
      index = register_back address.index has.index i;
      scale = byte_back address.scale has.scale i;
      disp = hex_back address.disp has.disp i;
      rip = next_back address.rip address.base has.base i;
    })

pub place_back : (place : Place) → HasPlaceText place → place_said (place_text place) ≡ place
unfolding place_said place_text
place_back Nothing has = refl
place_back (Reg number) has = ap (λ n. Reg n) (byte_back number has)
place_back (High number) has = ap (λ n. High n) (byte_back number has)
place_back (Mem address) has = ap (λ a. Mem a) (address_back address has)
place_back Value has = refl

-- words with commas lack spaces
joined_no_space : (word rest : List ℕ) → lacks 32 word ≡ true → lacks 32 rest ≡ true → lacks 32 (word ++ (44 ∷ rest)) ≡ true
joined_no_space word rest one other = lacks_append 32 word (44 ∷ rest) one other

pub place_no_space : (place : Place) → HasPlaceText place → lacks 32 (place_text place) ≡ true
unfolding place_text
place_no_space Nothing has = refl
place_no_space (Reg number) has = byte_lacks 32 number has refl
place_no_space (High number) has = byte_lacks 32 number has refl
place_no_space (Mem address) has =
    joined_no_space (base_text address) _ (base_no_space address.rip address.base has.base)
    (joined_no_space (register_text address.index) _ (register_no_space address.index has.index)
    (joined_no_space (decimal address.scale) _ (byte_lacks 32 address.scale has.scale refl)
    (lacks_append 32 (hex_digits address.disp) (93 ∷ []) (hex_lacks 32 address.disp has.disp refl) refl)))
place_no_space Value has = refl
