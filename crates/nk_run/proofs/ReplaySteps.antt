-- A replay goes over a line as the line says.
use Rattle.std.proofs.Common.{◌≡◌, ℕ, ◌+◌, true, List, ◌++◌, length, refl, ap, ◌∙◌}
use Rattle.std.specs.Prelude.{Option, None, Some, ◌&&◌, if◌then◌else◌}
use Rattle.std.proofs.lemmas.Bool.{eq-eqb}
use Rattle.nk_bits.specs.declared.call.Answer.{Answer}
use Rattle.nk_bits.specs.declared.call.CallWords.{CallWords}
use Rattle.text_lines.specs.TextLines.{lines}
use Rattle.nk_body.specs.Calls.{call_of}
use Rattle.nk_body.specs.CallRules.{Bytes, IsSourceOf, NotTaken, Sourced, Unreadable, answer_to, wants}
use Rattle.nk_body.specs.NestedRecord.{Nested}
use Rattle.nk_body.specs.BookLaws.{BesideLaws}
use Rattle.replay_core.specs.JournalLines.{Calls, Heard}
use Rattle.replay_core.specs.ReplayedCalls.{WholeReplay, Replayed, is_answer, is_given, is_same_place, replay_from, replayed, stops_at, with_line}
use Rattle.nk_run.proofs.HeardLines.{IsHeard, noted_of}

pub replay_line : (number : ℕ) (line rest : List ℕ) (says : Option Heard) (s : Replayed) → IsHeard line says
    → replay_from number (lines (line ++ rest)) s ≡ with_line number s says (replay_from (number + 1) (lines rest))
unfolding replay_from
replay_line number line rest says s is =
    ap (λ ls. replay_from number ls s) (is.first rest)
    ∙ ap (λ h. with_line number s h (replay_from (number + 1) (lines rest))) is.heard

-- what is noted of a source is what the call takes
given_is : (o : Option ℕ) (source : Sourced) → IsSourceOf o source → is_given o source ≡ true
given_is None source is = ap (is_given None) is
given_is (Some count) NotTaken is = absurd is
given_is (Some count) Unreadable is = refl
given_is (Some count) (Bytes bytes) is = eq-eqb (length bytes) count is

same_place : (o : Option ℕ) → is_same_place o o ≡ true
same_place None = refl
same_place (Some p) = eq-eqb p p refl

answer_is : (answer : Answer) (call : CallWords) (source : Sourced)
    → is_answer answer (noted_of call source answer) ≡ true
answer_is answer call source = λ i. eq-eqb answer.value answer.value refl i && same_place answer.place i

-- a call that the record answers so is made
pub replay_call : BesideLaws → (number : ℕ) (rest : List ℕ) (nk : Nested) (held : ℕ → ℕ → ℕ) (m : List ℕ) (call : CallWords)
    (source : Sourced) (line : List ℕ)
    → IsHeard line (Some (Calls (noted_of call source (answer_to nk (call_of call) source))))
    → IsSourceOf (wants nk.ledger.book (call_of call)) source
    → let s : Replayed = record { nested = record nk { held = held }; memory = m } in
    replay_from number (lines (line ++ rest)) s
    ≡ replay_from (number + 1) (lines rest) (replayed s (noted_of call source (answer_to nk (call_of call) source)))
replay_call laws number rest nk held m call source line is sourced =
    let s : Replayed = record { nested = record nk { held = held }; memory = m } in
    let it = noted_of call source (answer_to nk (call_of call) source) in
    let later : Replayed → WholeReplay = replay_from (number + 1) (lines rest) in
    let right : is_answer (answer_to (record nk { held = held }) (call_of call) source) it ≡ true =
    ap (λ (a : Answer). is_answer a it) (laws.answered nk held (call_of call) source)
    ∙ answer_is (answer_to nk (call_of call) source) call source in
    replay_line number line rest (Some (Calls it)) s is
    ∙ (λ i. if given_is (wants nk.ledger.book (call_of call)) source sourced i
    then (if right i then later (replayed s it) else stops_at number (replayed s it)) else stops_at number s)
