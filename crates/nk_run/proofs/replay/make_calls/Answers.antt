use Rattle.std.proofs.Common.{◌≡◌, ◌∙◌, Some, ap, subst, sym}
use Rattle.gate_state.specs.MachineStates.{Opening}
use Rattle.replay_core.specs.ReplayedCalls.{IsReplayFault, Replayed, replay_of, standing_held}
use Rattle.nk_run.specs.Outcome.{journaled, opened}
use Rattle.nk_run.specs.ReplyText.{line_bytes}
use Rattle.nk_run.specs.Replies.{RefusesBy}
use Rattle.nk_run.specs.Statuses.{status_number}
use Rattle.nk_run.proofs.OpeningMemory.{stands_opened}
use Rattle.nk_run.proofs.replay.make_calls.Goals as goal

pub returns-in-Ok : goal.returns-in-Ok
returns-in-Ok c =
    let o : Opening = record { image = c.args.opening.now.image; frames = c.args.opening.now.layout.frames } in
    let begun : standing_held c.in-Some.guarded.kernel c.in-Some.guarded.memory ≡ opened o =
    stands_opened o c.in-Some.guarded.kernel c.in-Some.guarded.memory c.in-Some.ensures.opening c.in-Some.ensures.kinds
    c.in-Some.ensures.root c.in-Some.ensures.ledger in
    let made = c.in-Ok.ensures.made (λ e. absurd (cc)) in (
      ap (λ (s : Replayed). (replay_of c.args.journal.now s).bad) (sym begun) ∙ c.in-Ok.ensures.done,
      ap (λ (s : Replayed). s.nested) made ∙ ap (λ (s : Replayed). (replay_of c.args.journal.now s).made.nested) begun,
      c.in-Ok.ensures.books,
      c.in-Ok.ensures.size ∙ c.in-Some.ensures.size,
    )

pub returns-in-Err-Line : goal.returns-in-Err-Line
returns-in-Err-Line c =
    let o : Opening = record { image = c.args.opening.now.image; frames = c.args.opening.now.layout.frames } in
    let begun : standing_held c.in-Some.guarded.kernel c.in-Some.guarded.memory ≡ opened o =
    stands_opened o c.in-Some.guarded.kernel c.in-Some.guarded.memory c.in-Some.ensures.opening c.in-Some.ensures.kinds
    c.in-Some.ensures.root c.in-Some.ensures.ledger in
    let replay = replay_of c.args.journal.now (standing_held c.in-Some.guarded.kernel c.in-Some.guarded.memory) in
    let fault : replay.bad ≡ Some c.in-Err-Line.number = subst (IsReplayFault replay) c.in-Err-Line.field-0-is c.in-Err-Line.ensures.fault in
    let bad = sym fault ∙ ap (λ (s : Replayed). (replay_of c.args.journal.now s).bad) begun in
    let refused = subst (λ n. RefusesBy 6 (journaled (Some n)) (status_number c.refuse.result.status) (line_bytes c.refuse.result.line))
    c.in-Err-Line.number-is c.refuse.ensures in
    subst (λ bad. RefusesBy 6 (journaled bad) (status_number c.refuse.result.status) (line_bytes c.refuse.result.line)) bad refused
