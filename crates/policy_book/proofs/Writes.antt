-- The rule that a write breaks in a region that was found, by its policy, and what follows where it breaks none.
use Rattle.std.proofs.Common.{◌≡◌, ◌≢◌, ℕ, ◌+◌, ◌≤◌, Bool, true, false, List, [], ◌∷◌, length, arith, refl, sym, ap, ◌∙◌}
use Rattle.std.specs.Prelude.{not, ◌&&◌, ◌==◌, nat_lt, IfSome, None, Option, Some}
use Rattle.std.specs.Bool.{then_some}
use Rattle.std.specs.Option.{option_map}
use Rattle.std.proofs.lemmas.Bool.{eqb-true, false≢true, ltb-false, ne_eqb}
use Rattle.std.proofs.lemmas.Option.{same_Some}
use Rattle.nk_bits.specs.declared.rule.Rule.{Rule}
use Rattle.nk_bits.specs.declared.rule.Rule.TheVariants.{BadRegion, LogFull, NoWrite, NotAtEnd, OutOfBounds, WrittenOnce}
use Rattle.region_book.specs.declared.regions.Region.{Region}
use Rattle.region_book.specs.RegionCalls.{else_rule, fits_region}
use Rattle.region_book.specs.RegionRecords.{RegionRecord, is_written_in, shown_region}
use Rattle.write_log.specs.LogRecords.{LogRecord, log_size, logged, room_of}
use Rattle.policy_book.specs.PolicyRules.{bounds_of, first_rule, is_logged, log_by, policy_of, policy_rule}

-- the rule by what is tested: a byte of the range was written, the offset isn't the tail, and the log is too full
abbrev rule_by : ℕ → Bool → Bool → Bool → Option Rule
rule_by policy written apart full =
    else_rule (policy == 3) NoWrite
    (else_rule (policy == 1 && written) WrittenOnce
    (else_rule (policy == 2 && apart) NotAtEnd
    (else_rule (policy == 4 && full) LogFull None)))

then_is : (b : Bool) (rule : Rule) → then_some b rule ≡ else_rule b rule None
then_is true rule = refl
then_is false rule = refl

not_broken : (b : Bool) (rule : Rule) → else_rule b rule None ≡ None → b ≡ false
not_broken true rule none = let no : Some rule ≡ None = none in cc
not_broken false rule none = refl

later_none : (rule later : Option Rule) → first_rule rule later ≡ None → later ≡ None
later_none None later none = none
later_none (Some rule) later none = let no : Some rule ≡ None = none in cc

by_other : (policy : ℕ) (written apart full : Bool) → policy ≢ 1 → policy ≢ 2 → policy ≢ 3 → policy ≢ 4 → rule_by policy written apart full ≡ None
by_other policy written apart full one two three four = rw (ne_eqb policy 1 one, ne_eqb policy 2 two, ne_eqb policy 3 three, ne_eqb policy 4 four) refl

module _ (log : List LogRecord) (offset count : ℕ) where
  -- the rule of a region, as if it had this policy
  abbrev rule_as : RegionRecord → ℕ → Option Rule
  rule_as r policy = rule_by policy (is_written_in r offset count) (not (offset == r.tail)) (nat_lt (room_of log) (24 + count))

  by_tests : (r : RegionRecord) → policy_rule log r offset count ≡ rule_as r r.policy
  unfolding policy_rule
  by_tests r = refl

  of_shown : (r : RegionRecord) (s : Region) → option_map shown_region (Some r) ≡ Some s → policy_rule log r offset count ≡ rule_as r s.policy
  of_shown r s is = by_tests r ∙ ap (λ (s : Region). rule_as r s.policy) (same_Some (shown_region r) s is)

  pub once_rule : (o : Option RegionRecord) (s : Region) (written : Bool) → option_map shown_region o ≡ Some s → s.policy ≡ 1 →
      IfSome o (λ r. written ≡ is_written_in r offset count) → then_some written WrittenOnce ≡ policy_of log o offset count
  once_rule None s written is policy test = let no : None ≡ Some s = is in cc
  once_rule (Some r) s written is policy test =
      then_is written WrittenOnce ∙ ap (λ b. else_rule b WrittenOnce None) test ∙ sym (of_shown r s is ∙ ap (rule_as r) policy)

  pub append_rule : (o : Option RegionRecord) (s : Region) → option_map shown_region o ≡ Some s → s.policy ≡ 2 →
      then_some (not (offset == s.tail)) NotAtEnd ≡ policy_of log o offset count
  append_rule None s is policy = let no : None ≡ Some s = is in cc
  append_rule (Some r) s is policy =
      ap (λ (s : Region). then_some (not (offset == s.tail)) NotAtEnd) (sym (same_Some (shown_region r) s is))
      ∙ then_is (not (offset == r.tail)) NotAtEnd ∙ sym (of_shown r s is ∙ ap (rule_as r) policy)

  pub closed_rule : (o : Option RegionRecord) (s : Region) → option_map shown_region o ≡ Some s → s.policy ≡ 3 → Some NoWrite ≡ policy_of log o offset count
  closed_rule None s is policy = let no : None ≡ Some s = is in cc
  closed_rule (Some r) s is policy = sym (of_shown r s is ∙ ap (rule_as r) policy)

  pub log_rule : (o : Option RegionRecord) (s : Region) → option_map shown_region o ≡ Some s → s.policy ≡ 4 →
      then_some (nat_lt (room_of log) (24 + count)) LogFull ≡ policy_of log o offset count
  log_rule None s is policy = let no : None ≡ Some s = is in cc
  log_rule (Some r) s is policy = then_is (nat_lt (room_of log) (24 + count)) LogFull ∙ sym (of_shown r s is ∙ ap (rule_as r) policy)

  pub other_rule : (o : Option RegionRecord) (s : Region) → option_map shown_region o ≡ Some s → s.policy ≢ 1 → s.policy ≢ 2 → s.policy ≢ 3 → s.policy ≢ 4 →
      None ≡ policy_of log o offset count
  other_rule None s is one two three four = refl
  other_rule (Some r) s is one two three four = sym (of_shown r s is ∙ by_other s.policy _ _ _ one two three four)

  -- where no rule is broken the range fits, and the record of a region of policy 4 has room
  abbrev NoneBroken : Option RegionRecord → Type 0
  NoneBroken o = first_rule (bounds_of o offset count) (policy_of log o offset count) ≡ None

  pub none_fits : (o : Option RegionRecord) → NoneBroken o → fits_region o offset count ≡ true
  none_fits None none = let no : Some BadRegion ≡ None = none in cc
  none_fits (Some r) none = go (fits_region (Some r) offset count) none
    where
      go : (fits : Bool) → first_rule (else_rule (not fits) OutOfBounds None) (policy_rule log r offset count) ≡ None → fits ≡ true
      go true none = refl
      go false none = let no : Some OutOfBounds ≡ None = none in cc

  pub none_has_room : (o : Option RegionRecord) → NoneBroken o → IfSome o (λ r. true ≡ (r.policy == 4)) → 24 + count ≤ room_of log
  none_has_room None none four = let no : Some BadRegion ≡ None = none in cc
  none_has_room (Some r) none four =
      let policy : policy_rule log r offset count ≡ None = later_none (bounds_of (Some r) offset count) (policy_rule log r offset count) none in
      let room : rule_as r 4 ≡ None = ap (rule_as r) (sym (eqb-true r.policy 4 (sym four))) ∙ sym (by_tests r) ∙ policy in
      ltb-false (room_of log) (24 + count) (not_broken (nat_lt (room_of log) (24 + count)) LogFull room)

  pub logged_is : (o : Option RegionRecord) (id : ℕ) (bytes : List ℕ) → NoneBroken o → IfSome o (λ r. true ≡ (r.policy == 4)) → IfSome o (λ r. r.id ≡ id) →
      logged log id offset bytes ≡ log_by log o offset bytes
  logged_is None id bytes none four same = let no : Some BadRegion ≡ None = none in cc
  logged_is (Some r) id bytes none four same = rw (← four) (ap (λ id. logged log id offset bytes) (sym same))

  -- a region of policy 4 is one whose writes are recorded
  pub not_unlogged : (o : Option RegionRecord) → NoneBroken o → IfSome o (λ r. true ≡ (r.policy == 4)) → is_logged o ≡ false → ⊥
  not_unlogged None none four off = let no : Some BadRegion ≡ None = none in cc
  not_unlogged (Some r) none four off = false≢true (sym off ∙ sym four)

-- what is shown of a region tells whether its writes are recorded
pub shown_logged : (o : Option RegionRecord) (s : Region) → option_map shown_region o ≡ Some s → (s.policy == 4) ≡ true
    → IfSome o (λ r. true ≡ (r.policy == 4))
shown_logged None s is four = tt
shown_logged (Some r) s is four = sym four ∙ ap (λ (s : Region). s.policy == 4) (sym (same_Some (shown_region r) s is))

pub size_logged : (log : List LogRecord) (id offset : ℕ) (bytes : List ℕ) → log_size (logged log id offset bytes) ≡ log_size log + (24 + length bytes)
unfolding log_size
size_logged [] id offset bytes = omega arith
size_logged (it ∷ log) id offset bytes = let later : log_size (logged log id offset bytes) ≡ log_size log + (24 + length bytes) = size_logged log id offset bytes in omega (arith, later)
