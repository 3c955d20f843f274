-- The first of all short strings that passes a test: it passes, and comes before all others that do.
use Rattle.std.proofs.Common.{◌≡◌, ℕ, ◌+◌, ◌<◌, ◌≤◌, ◌⊎◌, zero, suc, Bool, true, false, cond, Option, None, Some, List, [], ◌∷◌, length, map, find, flat_map, MatchOption, option_map, refl, ap, sym, subst, ◌∙◌, arith, inl, inr}
use Rattle.std.specs.List.{range_with_len}
use Rattle.std.specs.Option.{option_or}
use Rattle.std.proofs.lemmas.Bool.{cases_lt}
use Rattle.std.proofs.lemmas.List.{nil_from_length}
use Rattle.std.proofs.lemmas.List.Concat.{flat_map-cons}
use Rattle.std.proofs.lemmas.List.Elements.{All-cons, All-head, All-nil, All-tail}
use Rattle.std.proofs.lemmas.List.Folds.{find-append}
use Rattle.std.proofs.lemmas.Option.{MatchOption-at_none, MatchOption-at_some}
use Rattle.x86_decode.specs.Spelling.{AreBytes}
use Rattle.asm_text.specs.AssembledText.{byte_strings, short_strings}
use Rattle.asm_text.specs.LeastSpelling.{is_not_behind}
use Rattle.asm_text.proofs.Orders.{order_cons, order_less, order_only, order_same, shorter}

false_true : false ≡ true → ⊥
false_true h = cc

-- the first of a class of strings that passes
pub record IsFirst (Class : List ℕ → Type 0) (test : List ℕ → Bool) (bytes : List ℕ) : Type 0 where
  pub member : Class bytes
  pub passes : test bytes ≡ true
  pub first : (other : List ℕ) → Class other → test other ≡ true → is_not_behind bytes other ≡ true

abbrev pub NonePasses : (List ℕ → Type 0) → (List ℕ → Bool) → Type 0
NonePasses Class test = (bytes : List ℕ) → Class bytes → test bytes ≡ true → ⊥

-- what is found is the first of the class that passes, and where nothing is found none passes
abbrev pub Finds : (List ℕ → Type 0) → (List ℕ → Bool) → Option (List ℕ) → Type 0
Finds Class test found = MatchOption found (NonePasses Class test) (IsFirst Class test)

-- the same class by other words
renamed : (Class Other : List ℕ → Type 0) (test : List ℕ → Bool)
    → ((bytes : List ℕ) → Class bytes → Other bytes) → ((bytes : List ℕ) → Other bytes → Class bytes)
    → (found : Option (List ℕ)) → Finds Class test found → Finds Other test found
renamed Class Other test to from None none = λ bytes member passes. none bytes (from bytes member) passes
renamed Class Other test to from (Some bytes) first = record {
  member = to bytes first.member;
  passes = first.passes;
  first = λ other member passes. first.first other (from other member) passes;
}

-- one class behind another
module _ (Front Back Both : List ℕ → Type 0) (test : List ℕ → Bool)
    (of_front : (bytes : List ℕ) → Front bytes → Both bytes)
    (of_back : (bytes : List ℕ) → Back bytes → Both bytes)
    (either : (bytes : List ℕ) → Both bytes → Front bytes ⊎ Back bytes)
    (ordered : (a b : List ℕ) → Front a → Back b → is_not_behind a b ≡ true) where
  joined : (front back : Option (List ℕ)) → Finds Front test front → Finds Back test back
      → Finds Both test (option_or front back)
  joined None None none nor = λ bytes member passes. elim (either bytes member) [
    | inl front ↦ none bytes front passes
    | inr back ↦ nor bytes back passes
  ]
  joined None (Some bytes) none first = record {
    member = of_back bytes first.member;
    passes = first.passes;
    first = λ other member passes. elim (either other member) [
      | inl front ↦ absurd (none other front passes)
      | inr back ↦ first.first other back passes
    ];
  }
  joined (Some bytes) back first later = record {
    member = of_front bytes first.member;
    passes = first.passes;
    first = λ other member passes. elim (either other member) [
      | inl front ↦ first.first other front passes
      | inr back ↦ ordered bytes other first.member back
    ];
  }

-- a string of one of so many classes
record IsAmong (Class : ℕ → List ℕ → Type 0) (from count : ℕ) (bytes : List ℕ) : Type 0 where
  pub number : ℕ
  pub least : from ≤ number
  pub below : number < from + count
  pub member : Class number bytes

among_none : (Class : ℕ → List ℕ → Type 0) (from : ℕ) (bytes : List ℕ) → IsAmong Class from zero bytes → ⊥
among_none Class from bytes among = omega (arith, among.least, among.below)

among_first : (Class : ℕ → List ℕ → Type 0) (from count : ℕ) (bytes : List ℕ)
    → Class from bytes → IsAmong Class from (suc count) bytes
among_first Class from count bytes member =
    record { number = from; least = omega arith; below = omega arith; member = member }

among_later : (Class : ℕ → List ℕ → Type 0) (from count : ℕ) (bytes : List ℕ)
    → IsAmong Class (from + 1) count bytes → IsAmong Class from (suc count) bytes
among_later Class from count bytes among = record {
  number = among.number;
  least = omega (arith, among.least);
  below = omega (arith, among.below);
  member = among.member;
}

among_cases : (Class : ℕ → List ℕ → Type 0) (from count : ℕ) (bytes : List ℕ)
    → IsAmong Class from (suc count) bytes → Class from bytes ⊎ IsAmong Class (from + 1) count bytes
among_cases Class from count bytes among = elim (cases_lt from among.number) [
  | inl later ↦ inr (record {
    number = among.number;
    least = omega (arith, later);
    below = omega (arith, among.below);
    member = among.member;
  })
  | inr not_later ↦
      inl (subst (λ (n : ℕ). Class n bytes) (omega (arith, not_later, among.least)) among.member)
]

-- classes one behind another, each with the list of its strings
module _ (Class : ℕ → List ℕ → Type 0) (strings : ℕ → List (List ℕ)) (test : List ℕ → Bool)
    (each : (number : ℕ) → Finds (Class number) test (find test (strings number)))
    (ordered : (less more : ℕ) (a b : List ℕ) → less < more → Class less a → Class more b
    → is_not_behind a b ≡ true) where
  found_among : (from count : ℕ)
      → Finds (IsAmong Class from count) test (find test (flat_map strings (range_with_len from count)))
  found_among from zero = λ bytes among passes. among_none Class from bytes among
  found_among from (suc count) =
      let later : List (List ℕ) = flat_map strings (range_with_len (from + 1) count) in
      let P : Option (List ℕ) → Type 0 = λ o. Finds (IsAmong Class from (suc count)) test o in
      subst P
      (sym (ap (find test) (flat_map-cons strings from (range_with_len (from + 1) count)) ∙ find-append test (strings from) later))
      (joined (Class from) (IsAmong Class (from + 1) count) (IsAmong Class from (suc count)) test
      (among_first Class from count) (among_later Class from count) (among_cases Class from count)
      (λ a b member among. ordered from among.number a b (omega (arith, among.least)) member among.member)
      (find test (strings from)) (find test later) (each from) (found_among (from + 1) count))

-- a byte in front of the strings of a class
abbrev Begins : (List ℕ → Type 0) → ℕ → List ℕ → Type 0
Begins Class byte [] = ⊥
Begins Class byte (first ∷ rest) = (first ≡ byte) × Class rest

begun : (Class P : List ℕ → Type 0) (byte : ℕ) → ((rest : List ℕ) → Class rest → P (byte ∷ rest))
    → (bytes : List ℕ) → Begins Class byte bytes → P bytes
begun Class P byte holds [] none = absurd none
begun Class P byte holds (first ∷ rest) begins =
    subst (λ (b : ℕ). P (b ∷ rest)) (sym begins.0) (holds rest begins.1)

headed : (Class : List ℕ → Type 0) (test : List ℕ → Bool) (byte : ℕ) (found : Option (List ℕ))
    → Finds Class (λ rest. test (byte ∷ rest)) found
    → Finds (Begins Class byte) test (option_map (λ rest. byte ∷ rest) found)
headed Class test byte None none = begun Class (λ bytes. test bytes ≡ true → ⊥) byte none
headed Class test byte (Some found) first = record {
  member = (refl, first.member);
  passes = first.passes;
  first =
      begun Class (λ other. test other ≡ true → is_not_behind (byte ∷ found) other ≡ true) byte
      (λ rest member passes. order_cons byte found rest (first.first rest member passes));
}

chosen_mapped : (pass : Bool) (f : List ℕ → List ℕ) (bytes : List ℕ) (later before : Option (List ℕ))
    → later ≡ option_map f before → cond pass (Some (f bytes)) later ≡ option_map f (cond pass (Some bytes) before)
chosen_mapped true f bytes later before same = refl
chosen_mapped false f bytes later before same = same

find_mapped : (f : List ℕ → List ℕ) (test : List ℕ → Bool) (strings : List (List ℕ))
    → find test (map f strings) ≡ option_map f (find (λ bytes. test (f bytes)) strings)
find_mapped f test [] = refl
find_mapped f test (bytes ∷ strings) =
    chosen_mapped (test (f bytes)) f bytes (find test (map f strings)) (find (λ rest. test (f rest)) strings)
    (find_mapped f test strings)

-- the strings of so many bytes
abbrev IsString : ℕ → List ℕ → Type 0
IsString count bytes = AreBytes bytes × (length bytes ≡ count)

string_begins : (count : ℕ) (bytes : List ℕ) → IsString (suc count) bytes
    → IsAmong (Begins (IsString count)) 0 256 bytes
string_begins count [] string = absurd (omega (arith, string.1))
string_begins count (byte ∷ rest) string = record {
  number = byte;
  least = omega arith;
  below = All-head (λ b. b < 256) byte rest string.0;
  member = (refl, (All-tail (λ b. b < 256) byte rest string.0, omega (arith, string.1)));
}

begins_string : (count : ℕ) (bytes : List ℕ) → IsAmong (Begins (IsString count)) 0 256 bytes
    → IsString (suc count) bytes
begins_string count bytes among =
    begun (IsString count) (IsString (suc count)) among.number
    (λ rest string. (All-cons (λ b. b < 256) among.number rest among.below string.0, ap suc string.1))
    bytes among.member

begins_ordered : (count less more : ℕ) (a b : List ℕ) → less < more
    → Begins (IsString count) less a → Begins (IsString count) more b → is_not_behind a b ≡ true
begins_ordered count less more a b before in_a in_b =
    begun (IsString count) (λ c. is_not_behind c b ≡ true) less
    (λ rest string. begun (IsString count) (λ c. is_not_behind (less ∷ rest) c ≡ true) more
    (λ other string'. order_less less more rest other (omega (arith, string.1, string'.1)) before) b in_b)
    a in_a

lengths_ordered : (less more : ℕ) (a b : List ℕ) → less < more → IsString less a → IsString more b
    → is_not_behind a b ≡ true
lengths_ordered less more a b before in_a in_b = shorter a b (omega (arith, in_a.1, in_b.1))

empty_found : (test : List ℕ → Bool) (pass : Bool) → test [] ≡ pass
    → Finds (IsString 0) test (cond pass (Some []) None)
empty_found test true pass = record {
  member = (All-nil (λ b. b < 256), refl);
  passes = pass;
  first = λ other string passes. subst (λ (b : List ℕ). is_not_behind [] b ≡ true)
      (sym (nil_from_length other string.1)) (order_same []);
}
empty_found test false pass =
    λ bytes string passes. false_true
    (sym pass ∙ (ap test (sym (nil_from_length bytes string.1)) ∙ passes))

found_strings : (count : ℕ) (test : List ℕ → Bool) → Finds (IsString count) test (find test (byte_strings count))
unfolding byte_strings
found_strings zero test = empty_found test (test []) refl
found_strings (suc count) test =
    renamed (IsAmong (Begins (IsString count)) 0 256) (IsString (suc count)) test
    (begins_string count) (string_begins count)
    (find test (flat_map (λ byte. map (λ rest. byte ∷ rest) (byte_strings count)) (range_with_len 0 256)))
    (found_among (Begins (IsString count)) (λ byte. map (λ rest. byte ∷ rest) (byte_strings count)) test
    (λ byte. subst (λ (o : Option (List ℕ)). Finds (Begins (IsString count) byte) test o)
    (sym (find_mapped (λ rest. byte ∷ rest) test (byte_strings count)))
    (headed (IsString count) test byte (find (λ rest. test (byte ∷ rest)) (byte_strings count))
    (found_strings count (λ rest. test (byte ∷ rest)))))
    (begins_ordered count) 0 256)

-- the strings of fewer bytes than so many
found_below : (bound : ℕ) (test : List ℕ → Bool)
    → Finds (IsAmong IsString 0 bound) test (find test (flat_map byte_strings (range_with_len 0 bound)))
found_below bound test =
    found_among IsString byte_strings test (λ count. found_strings count test) lengths_ordered 0 bound

-- the short strings
abbrev pub IsShort : List ℕ → Type 0
IsShort bytes = AreBytes bytes × (length bytes ≤ 15)

short_among : (bytes : List ℕ) → IsShort bytes → IsAmong IsString 0 16 bytes
short_among bytes short = record {
  number = length bytes;
  least = omega arith;
  below = omega (arith, short.1);
  member = (short.0, refl);
}

among_short : (bytes : List ℕ) → IsAmong IsString 0 16 bytes → IsShort bytes
among_short bytes among = (among.member.0, omega (arith, among.member.1, among.below))

pub found_short : (test : List ℕ → Bool) → Finds IsShort test (find test short_strings)
unfolding short_strings
found_short test =
    renamed (IsAmong IsString 0 16) IsShort test among_short short_among
    (find test (flat_map byte_strings (range_with_len 0 16))) (found_below 16 test)

nothing_found : (test : List ℕ → Bool) → NonePasses IsShort test → (found : Option (List ℕ))
    → Finds IsShort test found → found ≡ None
nothing_found test none None nothing = refl
nothing_found test none (Some bytes) first = absurd (none bytes first.member first.passes)

abbrev some_string : List ℕ → Option (List ℕ)
some_string bytes = Some bytes

only_found : (test : List ℕ → Bool) (bytes : List ℕ) → IsFirst IsShort test bytes → (found : Option (List ℕ))
    → Finds IsShort test found → found ≡ Some bytes
only_found test bytes first None nothing = absurd (nothing bytes first.member first.passes)
only_found test bytes first (Some other) found =
    ap some_string (order_only other bytes
    (found.first bytes first.member first.passes) (first.first other found.member found.passes))

-- where none passes, none is found
pub first_none : (test : List ℕ → Bool) → NonePasses IsShort test → find test short_strings ≡ None
first_none test none = nothing_found test none (find test short_strings) (found_short test)

-- and the first is found
pub first_is : (test : List ℕ → Bool) (bytes : List ℕ) → IsFirst IsShort test bytes → find test short_strings ≡ Some bytes
first_is test bytes first = only_found test bytes first (find test short_strings) (found_short test)

-- what it says that one is found, and that none is
pub first_says : (test : List ℕ → Bool) (bytes : List ℕ) → find test short_strings ≡ Some bytes → IsFirst IsShort test bytes
first_says test bytes is =
    MatchOption-at_some (NonePasses IsShort test) (IsFirst IsShort test) bytes is (found_short test)

pub none_says : (test : List ℕ → Bool) → find test short_strings ≡ None → NonePasses IsShort test
none_says test is = MatchOption-at_none (NonePasses IsShort test) (IsFirst IsShort test) is (found_short test)
