-- Words, the texts that they are, and words that have none of the forms.
use Rattle.std.proofs.Common.{◌≡◌, ℕ, ◌≤◌, List, [], ◌∷◌, length, get_or, map, None, refl, arith, Global}
use Rattle.std.specs.Prelude.{String, slice_index_or}
use Rattle.std.specs.String.{string_bytes}
use Rattle.std.proofs.lemmas.List.{get_or_past, length-map}
use Rattle.command_words.specs.CommandLine.{audit_of, command_of, middle_of, pair_of, run_of, short_of}

-- the word at a place is this text
abbrev pub IsWord : {A : Type 0} → (A → List ℕ) → List A → ℕ → List ℕ → Type 0
IsWord {A} bytes words place text = (w : A) × (text ≡ bytes (get_or words place w))

-- the words have a form where there are as many as it has, by the texts that its command goes by
pub short_spelled : {A : Type 0} (bytes : A → List ℕ) (words : List A) (name word : List ℕ) → length words ≡ 2
    → IsWord bytes words 0 name → IsWord bytes words 1 word
    → short_of name word ≡ command_of (map bytes words)
short_spelled bytes (a ∷ b ∷ []) name word long name_is word_is = rw (name_is.1, word_is.1) refl
short_spelled bytes [] name word long name_is word_is = absurd (omega (arith, long))
short_spelled bytes (a ∷ []) name word long name_is word_is = absurd (omega (arith, long))
short_spelled bytes (a ∷ b ∷ c ∷ more) name word long name_is word_is = absurd (omega (arith, long))

pub pair_spelled : {A : Type 0} (bytes : A → List ℕ) (words : List A) (name : List ℕ) → length words ≡ 3
    → IsWord bytes words 0 name
    → pair_of name ≡ command_of (map bytes words)
pair_spelled bytes (a ∷ b ∷ c ∷ []) name long name_is = rw name_is.1 refl
pair_spelled bytes [] name long name_is = absurd (omega (arith, long))
pair_spelled bytes (a ∷ []) name long name_is = absurd (omega (arith, long))
pair_spelled bytes (a ∷ b ∷ []) name long name_is = absurd (omega (arith, long))
pair_spelled bytes (a ∷ b ∷ c ∷ d ∷ more) name long name_is = absurd (omega (arith, long))

pub middle_spelled : {A : Type 0} (bytes : A → List ℕ) (words : List A) (name third last : List ℕ) → length words ≡ 4
    → IsWord bytes words 0 name → IsWord bytes words 2 third → IsWord bytes words 3 last
    → middle_of name third last ≡ command_of (map bytes words)
middle_spelled bytes (a ∷ b ∷ c ∷ d ∷ []) name third last long name_is third_is last_is =
    rw (name_is.1, third_is.1, last_is.1) refl
middle_spelled bytes [] name third last long name_is third_is last_is = absurd (omega (arith, long))
middle_spelled bytes (a ∷ []) name third last long name_is third_is last_is = absurd (omega (arith, long))
middle_spelled bytes (a ∷ b ∷ []) name third last long name_is third_is last_is = absurd (omega (arith, long))
middle_spelled bytes (a ∷ b ∷ c ∷ []) name third last long name_is third_is last_is = absurd (omega (arith, long))
middle_spelled bytes (a ∷ b ∷ c ∷ d ∷ e ∷ more) name third last long name_is third_is last_is =
    absurd (omega (arith, long))

pub audit_spelled : {A : Type 0} (bytes : A → List ℕ) (words : List A) (name frames id : List ℕ) → length words ≡ 5
    → IsWord bytes words 0 name → IsWord bytes words 2 frames → IsWord bytes words 4 id
    → audit_of name frames id ≡ command_of (map bytes words)
audit_spelled bytes (a ∷ b ∷ c ∷ d ∷ e ∷ []) name frames id long name_is frames_is id_is =
    rw (name_is.1, frames_is.1, id_is.1) refl
audit_spelled bytes [] name frames id long name_is frames_is id_is = absurd (omega (arith, long))
audit_spelled bytes (a ∷ []) name frames id long name_is frames_is id_is = absurd (omega (arith, long))
audit_spelled bytes (a ∷ b ∷ []) name frames id long name_is frames_is id_is = absurd (omega (arith, long))
audit_spelled bytes (a ∷ b ∷ c ∷ []) name frames id long name_is frames_is id_is = absurd (omega (arith, long))
audit_spelled bytes (a ∷ b ∷ c ∷ d ∷ []) name frames id long name_is frames_is id_is = absurd (omega (arith, long))
audit_spelled bytes (a ∷ b ∷ c ∷ d ∷ e ∷ f ∷ more) name frames id long name_is frames_is id_is =
    absurd (omega (arith, long))

pub run_spelled : {A : Type 0} (bytes : A → List ℕ) (words : List A) (name steps frames : List ℕ) → length words ≡ 6
    → IsWord bytes words 0 name → IsWord bytes words 4 steps → IsWord bytes words 5 frames
    → run_of name steps frames ≡ command_of (map bytes words)
run_spelled bytes (a ∷ b ∷ c ∷ d ∷ e ∷ f ∷ []) name steps frames long name_is steps_is frames_is =
    rw (name_is.1, steps_is.1, frames_is.1) refl
run_spelled bytes [] name steps frames long name_is steps_is frames_is = absurd (omega (arith, long))
run_spelled bytes (a ∷ []) name steps frames long name_is steps_is frames_is = absurd (omega (arith, long))
run_spelled bytes (a ∷ b ∷ []) name steps frames long name_is steps_is frames_is = absurd (omega (arith, long))
run_spelled bytes (a ∷ b ∷ c ∷ []) name steps frames long name_is steps_is frames_is = absurd (omega (arith, long))
run_spelled bytes (a ∷ b ∷ c ∷ d ∷ []) name steps frames long name_is steps_is frames_is = absurd (omega (arith, long))
run_spelled bytes (a ∷ b ∷ c ∷ d ∷ e ∷ []) name steps frames long name_is steps_is frames_is =
    absurd (omega (arith, long))
run_spelled bytes (a ∷ b ∷ c ∷ d ∷ e ∷ f ∷ g ∷ more) name steps frames long name_is steps_is frames_is =
    absurd (omega (arith, long))

-- no form has another number of words than two to six
pub formless : {A : Type 0} (bytes : A → List ℕ) (words : List A)
    → (length words ≡ 2 → ⊥) → (length words ≡ 3 → ⊥) → (length words ≡ 4 → ⊥) → (length words ≡ 5 → ⊥) → (length words ≡ 6 → ⊥)
    → None ≡ command_of (map bytes words)
formless bytes [] two three four five six = refl
formless bytes (a ∷ []) two three four five six = refl
formless bytes (a ∷ b ∷ []) two three four five six = absurd (two refl)
formless bytes (a ∷ b ∷ c ∷ []) two three four five six = absurd (three refl)
formless bytes (a ∷ b ∷ c ∷ d ∷ []) two three four five six = absurd (four refl)
formless bytes (a ∷ b ∷ c ∷ d ∷ e ∷ []) two three four five six = absurd (five refl)
formless bytes (a ∷ b ∷ c ∷ d ∷ e ∷ f ∷ []) two three four five six = absurd (six refl)
formless bytes (a ∷ b ∷ c ∷ d ∷ e ∷ f ∷ g ∷ more) two three four five six = refl

-- past the last word there is none
pub no_word : (words : List (String Global)) (place : ℕ) → length words ≤ place
    → slice_index_or (map string_bytes words) place [] ≡ []
no_word words place past =
    get_or_past (map string_bytes words) place [] (omega (arith, past, length-map words string_bytes))
