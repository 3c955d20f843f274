-- What the words of `work` say of its number.
use Rattle.std.proofs.Common.{◌≡◌, ℕ, ◌≤◌, Bool, true, false, List, [], ◌∷◌, Option, Some, None}
use Rattle.std.specs.Prelude.{if◌then◌else◌}
use Rattle.std.specs.Option.{option_map}
use Rattle.text_lines.specs.Numerals.{numeral}
use Rattle.command_words.specs.declared.command_line.Command.TheVariants.{Scan, Map, Run, Replay, Make, Work, Join, Audit, Assemble, Listing}
use Rattle.command_words.specs.CommandLine.{both, command_of}
use Rattle.command_words.specs.NumberWords.{address_word, decimal_within}
use Rattle.nk_run.proofs.SafeRuns.{spelled_within}

work_number : (read : Option ℕ) (number : ℕ) → option_map Work read ≡ Some (Work number) → read ≡ Some number
work_number (Some n) number e = cc
work_number None number e = absurd (cc)

no_make : (read : Option ℕ) (number : ℕ) → option_map Make read ≡ Some (Work number) → ⊥
no_make (Some n) number e = cc
no_make None number e = cc

no_map : (a b : Option ℕ) (number : ℕ) → both Map a b ≡ Some (Work number) → ⊥
no_map (Some f) (Some va) number e = cc
no_map (Some f) None number e = cc
no_map None va number e = cc

no_listing : (a b : Option ℕ) (number : ℕ) → both Listing a b ≡ Some (Work number) → ⊥
no_listing (Some address) (Some count) number e = cc
no_listing (Some address) None number e = cc
no_listing None b number e = cc

no_replay : (read : Option ℕ) (number : ℕ) → option_map Replay read ≡ Some (Work number) → ⊥
no_replay (Some n) number e = cc
no_replay None number e = cc

short_within : (scans assembles makes works : Bool) (word : List ℕ) (number : ℕ)
    → (if scans then Some Scan else if assembles then Some Assemble else if makes then option_map Make (decimal_within 1 100 word)
    else if works then option_map Work (decimal_within 1 100 word) else None)
    ≡ Some (Work number) → number ≤ 100
short_within true assembles makes works word number e = absurd (cc)
short_within false true makes works word number e = absurd (cc)
short_within false false true works word number e = absurd (no_make (decimal_within 1 100 word) number e)
short_within false false false true word number e =
    (spelled_within 1 100 word number (work_number (decimal_within 1 100 word) number e)).1
short_within false false false false word number e = absurd (cc)

no_pair : (joins : Bool) (number : ℕ) → (if joins then Some Join else None) ≡ Some (Work number) → ⊥
no_pair true number e = cc
no_pair false number e = cc

no_middle : (maps replays lists : Bool) (x y a b : Option ℕ) (number : ℕ)
    → (if maps then both Map x y else if replays then option_map Replay x else if lists then both Listing a b else None)
    ≡ Some (Work number) → ⊥
no_middle true replays lists x y a b number e = no_map x y number e
no_middle false true lists x y a b number e = no_replay x number e
no_middle false false true x y a b number e = no_listing a b number e
no_middle false false false x y a b number e = cc

no_audit : (audits : Bool) (x y : Option ℕ) (number : ℕ) → (if audits then both Audit x y else None) ≡ Some (Work number) → ⊥
no_audit true (Some f) (Some id) number e = cc
no_audit true (Some f) None number e = cc
no_audit true None y number e = cc
no_audit false x y number e = cc

no_run : (runs : Bool) (x y : Option ℕ) (number : ℕ) → (if runs then both Run x y else None) ≡ Some (Work number) → ⊥
no_run true (Some s) (Some f) number e = cc
no_run true (Some s) None number e = cc
no_run true None y number e = cc
no_run false x y number e = cc

-- the work is asked for with 100 at most
pub work_within : (words : List (List ℕ)) (number : ℕ) → command_of words ≡ Some (Work number) → number ≤ 100
work_within [] number e = absurd (cc)
work_within (a ∷ []) number e = absurd (cc)
work_within (a ∷ b ∷ []) number e = short_within _ _ _ _ b number e
work_within (a ∷ b ∷ c ∷ []) number e = absurd (no_pair _ number e)
work_within (a ∷ b ∷ c ∷ d ∷ []) number e =
    absurd (no_middle _ _ _ (decimal_within 512 65536 c) (address_word d) (numeral 16 16 c) (decimal_within 1 4096 d) number e)
work_within (a ∷ b ∷ c ∷ d ∷ x ∷ []) number e =
    absurd (no_audit _ (decimal_within 512 65536 c) (decimal_within 256 8589934591 x) number e)
work_within (a ∷ b ∷ c ∷ d ∷ x ∷ f ∷ []) number e =
    absurd (no_run _ (decimal_within 0 4294967296 x) (decimal_within 512 65536 f) number e)
work_within (a ∷ b ∷ c ∷ d ∷ x ∷ f ∷ g ∷ more) number e = absurd (cc)
