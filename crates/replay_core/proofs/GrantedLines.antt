-- The lines of an accepted journal, up to the one whose call gave an identifier and from there on.
use Rattle.std.proofs.Common.{◌≡◌, ◌≢◌, ℕ, ◌+◌, ◌≤◌, Bool, true, false, not, ◌||◌, List, [], ◌∷◌, length, arith, refl, sym, ap, subst, ◌∙◌}
use Rattle.std.specs.Prelude.{◌==◌, nat_le, nat_lt, Option, None, Some, is_none, if◌then◌else◌}
use Rattle.std.proofs.lemmas.Bool.{and_parts, eqb-true, eqb-false, false≢true, ltb-false, or_parts}
use Rattle.std.proofs.lemmas.Option.{same_Some}
use Rattle.nk_bits.specs.declared.call.CallWords.{CallWords}
use Rattle.nk_bits.specs.declared.rule.Rule.{Rule}
use Rattle.nk_bits.specs.declared.rule.Rule.TheVariants.{BadCall, BadRange, BadPolicy, NoRoom, TooManyRegions}
use Rattle.nk_bits.specs.Rules.{rule_number}
use Rattle.region_book.specs.RegionCalls.{alloc_rule, is_policy, pool_region, room, with_one_more}
use Rattle.region_book.specs.RegionRecords.{Book, RegionRecord}
use Rattle.text_lines.specs.TextLines.{lines, words}
use Rattle.nk_body.specs.CallRules.{Sourced, after_call, answer_by, answer_to, made_unless, stand_of, verdict, with_pool}
use Rattle.nk_body.specs.declared.call.Call.{Call}
use Rattle.nk_body.specs.declared.call.Call.TheVariants.{Allocate}
use Rattle.nk_body.specs.Calls.{call_of}
use Rattle.nk_body.specs.NestedRecord.{Ledger, Nested}
use Rattle.replay_core.specs.JournalLines.{Calls, Ends, Heard, Noted, Passes, heard_of}
use Rattle.replay_core.specs.GrantedCalls.{granted_by, granted_in, granted_of}
use Rattle.replay_core.specs.GrantedLaws.{GivesRegion}
use Rattle.replay_core.specs.ReplayedCalls.{Replayed, WholeReplay, is_answer, is_answer_right, is_same_place, is_source_right, replay_from, replay_of, replayed, stops_at, with_line, with_noted}
use Rattle.replay_core.proofs.GrantedSizes.{IsGiven, IsSized, given_by, grown_sized, opening_sized, sized_by}
use Rattle.replay_core.proofs.LedgerMoves.{call_kept, else_none}

-- a line of a call that isn't the last one
record IsRight (number : ℕ) (s : Replayed) (it : Noted) (later : Replayed → WholeReplay) : Type 0 where
  source : is_source_right s it ≡ true
  value : (answer_to s.nested (call_of it.call) it.source).value ≡ it.value
  goes : with_noted number s it later ≡ later (replayed s it)

right_line : (number : ℕ) (s : Replayed) (it : Noted) (later : Replayed → WholeReplay)
    → (with_noted number s it later).bad ≡ None → IsRight number s it later
right_line number s it later right = by_tests (is_source_right s it) (is_answer_right s it) refl refl right
  where
    by_tests : (source answer : Bool) → is_source_right s it ≡ source → is_answer_right s it ≡ answer
        → (if source then (if answer then later (replayed s it) else stops_at number (replayed s it)) else stops_at number s).bad ≡ None
        → IsRight number s it later
    by_tests false answer is_source is_answer right = let no : Some number ≡ None = right in absurd (cc)
    by_tests true false is_source is_answer right = let no : Some number ≡ None = right in absurd (cc)
    by_tests true true is_source is_answer right =
        let gives = answer_to s.nested (call_of it.call) it.source in
        let same = and_parts (gives.value == it.value) (is_same_place gives.place it.place) is_answer in
        record {
          source = is_source;
          value = eqb-true gives.value it.value same.0;
          goes = ap (λ (b : Bool). if b then (if is_answer_right s it then later (replayed s it) else stops_at number (replayed s it)) else stops_at number s) is_source
              ∙ ap (λ (b : Bool). if b then later (replayed s it) else stops_at number (replayed s it)) is_answer;
        }

-- the number of a rule is no identifier
rule_low : (rule : Rule) → rule_number rule ≤ 27
rule_low BadCall = omega arith
rule_low _ = omega arith

accepted : (nk : Nested) (call : Call) (source : Sourced) → 256 ≤ (answer_to nk call source).value
    → verdict nk call source ≡ None
unfolding answer_to
accepted nk call source high = by_verdict (verdict nk call source) refl high
  where
    by_verdict : (v : Option Rule) → verdict nk call source ≡ v → 256 ≤ (answer_by v nk call).value
        → verdict nk call source ≡ None
    by_verdict None is high = is
    by_verdict (Some rule) is high = absurd (omega (arith, rule_low rule))

-- a call 7 that is accepted: its size, and the place of its region
record IsAllocated (book : Book) (size : ℕ) : Type 0 where
  least : 1 ≤ size
  most : size ≤ 65536
  place : (p : ℕ) × (room book.regions size ≡ Some p)

not_none : (o : Option ℕ) → is_none o ≡ false → (p : ℕ) × (o ≡ Some p)
not_none None is = absurd (false≢true (sym is))
not_none (Some p) is = (p, refl)

allocated : (book : Book) (size policy : ℕ) → alloc_rule book size policy ≡ None → IsAllocated book size
unfolding alloc_rule
allocated book size policy is =
    let a = else_none (size == 0 || nat_lt 65536 size) BadRange _ is in
    let b = else_none (not (is_policy policy)) BadPolicy _ a.1 in
    let c = else_none (nat_le 256 (length book.regions)) TooManyRegions _ b.1 in
    let d = else_none (is_none (room book.regions size)) NoRoom None c.1 in
    let sizes = or_parts (size == 0) (nat_lt 65536 size) a.0 in
    let some = eqb-false size 0 sizes.0 in
    record {
      least = omega arith;
      most = ltb-false 65536 size sizes.1;
      place = not_none (room book.regions size) d.0;
    }

-- behind the line that gave the identifier, each line keeps its region's size
module _ (id size : ℕ) where
  abbrev Given : Replayed → Type 0
  Given s = IsGiven id size s.nested.ledger

  given_on : (s : Replayed) (it : Noted) → Given s → is_source_right s it ≡ true → Given (replayed s it)
  given_on s it given right =
      call_kept (IsGiven id size) s.nested (call_of it.call) it.source (stand_of s.nested (call_of it.call) s.memory)
      (given_by id size s.nested.ledger given.sized (call_of it.call) (answer_to s.nested (call_of it.call) it.source).value given.used) right

  keeps_line : (number : ℕ) (s : Replayed) (heard : Option Heard) (later : Replayed → WholeReplay) → Given s
      → ((t : Replayed) → Given t → (later t).bad ≡ None → Given (later t).made)
      → (with_line number s heard later).bad ≡ None → Given (with_line number s heard later).made
  keeps_line number s None later given behind right = let no : Some number ≡ None = right in absurd (cc)
  keeps_line number s (Some Passes) later given behind right = behind s given right
  keeps_line number s (Some Ends) later given behind right = given
  keeps_line number s (Some (Calls it)) later given behind right =
      let line = right_line number s it later right in
      subst (λ (whole : WholeReplay). Given whole.made) (sym line.goes)
      (behind (replayed s it) (given_on s it given line.source)
      (ap (λ (whole : WholeReplay). whole.bad) (sym line.goes) ∙ right))

  lines_keep : (number : ℕ) (ls : List (List ℕ)) (s : Replayed) → Given s → (replay_from number ls s).bad ≡ None
      → Given (replay_from number ls s).made
  unfolding replay_from
  lines_keep number [] s given right = given
  lines_keep number (line ∷ ls) s given right =
      keeps_line number s (heard_of (words line)) (replay_from (number + 1) ls) given
      (λ t holds is. lines_keep (number + 1) ls t holds is) right

module _ (id asked policy : ℕ) (asking : CallWords) (region : 256 ≤ id) (allocates : call_of asking ≡ Allocate asked policy) where
  -- a ledger behind the call that gives the identifier
  record IsGrant (ledger : Ledger) : Type 0 where
    least : 1 ≤ asked
    most : asked ≤ 65536
    given : IsGiven id asked ledger

  grant : (nk : Nested) (source : Sourced) (stand : ℕ → ℕ → ℕ) → IsSized id asked nk.ledger
      → (answer_to nk (Allocate asked policy) source).value ≡ id → IsGrant (after_call nk (Allocate asked policy) source stand).ledger
  unfolding answer_to
  grant nk source stand sized value =
      let none = accepted nk (Allocate asked policy) source (omega arith) in
      let is = allocated nk.ledger.book asked policy none in
      let next : nk.ledger.book.next ≡ id =
      ap (λ (v : Option Rule). (answer_by v nk (Allocate asked policy)).value) (sym none) ∙ value in
      let new : RegionRecord = pool_region nk.ledger.book asked policy is.place.0 in
      let ledger_is : (after_call nk (Allocate asked policy) source stand).ledger ≡ record nk.ledger { book = with_one_more nk.ledger.book new 0 } =
      ap (λ (v : Option Rule). (made_unless v nk (Allocate asked policy) source stand).ledger) none
      ∙ ap (λ (p : Option ℕ). (with_pool nk asked policy p).ledger) is.place.1 in
      record {
        least = is.least;
        most = is.most;
        given = subst (IsGiven id asked) (sym ledger_is)
            (record { sized = grown_sized id asked nk.ledger sized new 0 (λ same. refl); used = omega arith });
      }

  -- the call that is noted is this one
  grant_noted : (s : Replayed) (it : Noted) → IsSized id asked s.nested.ledger → asking ≡ it.call
      → (answer_to s.nested (call_of it.call) it.source).value ≡ id → IsGrant (replayed s it).nested.ledger
  grant_noted s it sized same =
      subst (λ (c : Call). (answer_to s.nested c it.source).value ≡ id
      → IsGrant (after_call s.nested c it.source (stand_of s.nested c s.memory)).ledger) (sym allocates ∙ ap call_of same)
      (grant s.nested it.source (stand_of s.nested (Allocate asked policy) s.memory) sized)

  -- where a replay ends that comes to that call
  pub record IsGranting (whole : WholeReplay) : Type 0 where
    pub least : 1 ≤ asked
    pub most : asked ≤ 65536
    pub sized : IsSized id asked whole.made.nested.ledger

  -- another call
  sized_on : (s : Replayed) (it : Noted) → IsSized id asked s.nested.ledger → is_source_right s it ≡ true
      → (answer_to s.nested (call_of it.call) it.source).value ≢ id → IsSized id asked (replayed s it).nested.ledger
  sized_on s it sized right other =
      call_kept (IsSized id asked) s.nested (call_of it.call) it.source (stand_of s.nested (call_of it.call) s.memory)
      (sized_by id asked s.nested.ledger sized (call_of it.call) (answer_to s.nested (call_of it.call) it.source).value
      (λ r is next asked same. absurd (other (next ∙ sym is ∙ same))))
      right

  module _ (number : ℕ) (s : Replayed) (later : Replayed → WholeReplay) (found : Option CallWords)
      (sized : IsSized id asked s.nested.ledger)
      (before : (t : Replayed) → IsSized id asked t.nested.ledger → (later t).bad ≡ None → found ≡ Some asking
      → IsGranting (later t))
      (behind : (t : Replayed) → IsGiven id asked t.nested.ledger → (later t).bad ≡ None
      → IsGiven id asked (later t).made.nested.ledger) where
    grants_call : (it : Noted) (here : Bool) → (it.value == id) ≡ here → IsRight number s it later
        → (later (replayed s it)).bad ≡ None → (if here then Some it.call else found) ≡ Some asking
        → IsGranting (later (replayed s it))
    grants_call it true here line right is =
        let granted = grant_noted s it sized (sym (same_Some it.call asking is)) (line.value ∙ eqb-true it.value id here) in
        record {
          least = granted.least;
          most = granted.most;
          sized = (behind (replayed s it) granted.given right).sized;
        }
    grants_call it false here line right is =
        before (replayed s it)
        (sized_on s it sized line.source (λ same. eqb-false it.value id here (sym line.value ∙ same))) right is

    grants_line : (heard : Option Heard) → (with_line number s heard later).bad ≡ None
        → granted_by id heard found ≡ Some asking → IsGranting (with_line number s heard later)
    grants_line None right is = let no : None ≡ Some asking = is in absurd (cc)
    grants_line (Some Passes) right is = before s sized right is
    grants_line (Some Ends) right is = let no : None ≡ Some asking = is in absurd (cc)
    grants_line (Some (Calls it)) right is =
        let line = right_line number s it later right in
        subst IsGranting (sym line.goes) (grants_call it (it.value == id) refl line
        (ap (λ (whole : WholeReplay). whole.bad) (sym line.goes) ∙ right) is)

  pub lines_grant : (number : ℕ) (ls : List (List ℕ)) (s : Replayed) → IsSized id asked s.nested.ledger
      → (replay_from number ls s).bad ≡ None → granted_in id ls ≡ Some asking → IsGranting (replay_from number ls s)
  unfolding replay_from granted_in
  lines_grant number [] s sized right is = let no : None ≡ Some asking = is in absurd (cc)
  lines_grant number (line ∷ ls) s sized right is =
      grants_line number s (replay_from (number + 1) ls) (granted_in id ls) sized
      (λ t holds on given. lines_grant (number + 1) ls t holds on given)
      (λ t holds on. lines_keep id asked (number + 1) ls t holds on) (heard_of (words line)) right is

pub accepted_journal : (journal : List ℕ) (from : Replayed) (id asked policy : ℕ) (asking : CallWords)
    → (is : GivesRegion journal from id asked policy asking)
    → IsGranting id asked policy asking is.region is.allocates (replay_of journal from)
unfolding replay_of granted_of
accepted_journal journal from id asked policy asking is =
    lines_grant id asked policy asking is.region is.allocates 1 (lines journal) from
    (subst (IsSized id asked) (sym is.opening) (opening_sized id asked)) is.accepted is.granted
