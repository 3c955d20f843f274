-- What comes of a step that may fault and that changes the translations kept, and of one step after another.
use Rattle.std.specs.Prelude.{Bool, true, false, if◌then◌else◌, Result, Ok, Err}
use Rattle.nk_bits.specs.Translations.{Translations}

-- the answer or the fault, and the translations kept afterwards
pub record Outcome (F A : Type 0) : Type 0 where
  pub answer : Result A F
  pub tlb : Translations

-- the outcome that an answer or a fault makes with these translations
abbrev pub outcome_of : {F A : Type 0} → Result A F → Translations → Outcome F A
outcome_of answer tlb = record { answer = answer; tlb = tlb }

abbrev pub answered : {F A : Type 0} → A → Translations → Outcome F A
answered answer tlb = record { answer = Ok answer; tlb = tlb }

abbrev pub refused : {F A : Type 0} → F → Translations → Outcome F A
refused fault tlb = record { answer = Err fault; tlb = tlb }

-- what comes after an outcome: the next step where there is an answer, and else its fault
abbrev pub then_by : {F A B : Type 0} → Result A F → Translations → (A → Translations → Outcome F B) → Outcome F B
then_by (Ok answer) tlb next = next answer tlb
then_by (Err fault) tlb next = refused fault tlb

abbrev pub and_then : {F A B : Type 0} → Outcome F A → (A → Translations → Outcome F B) → Outcome F B
and_then outcome next = then_by outcome.answer outcome.tlb next

-- what holds of the translations after a step, and after the next one from each answer, holds after both
pub then_on : {F A B : Type 0} (P : Translations → Type 0) (answer : Result A F) (tlb : Translations) (next : A → Translations → Outcome F B) →
    P tlb → ((x : A) → P (next x tlb).tlb) → P (then_by answer tlb next).tlb
then_on P (Ok x) tlb next all later = later x
then_on P (Err fault) tlb next all later = all

-- and what holds after either of two outcomes holds after the one that is chosen
pub choice_on : {F A : Type 0} (P : Translations → Type 0) (b : Bool) (one other : Outcome F A) →
    P one.tlb → P other.tlb → P (if b then one else other).tlb
choice_on P true one other all none = all
choice_on P false one other none all = all
