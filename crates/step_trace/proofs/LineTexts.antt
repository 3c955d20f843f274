-- The line of a step, put behind its beginning.
use Rattle.std.proofs.Common.{◌≡◌, ℕ, Bool, true, false, List, [], ◌++◌, refl, sym, ap, ◌∙◌, subst, append_assoc}
use Rattle.std.specs.Prelude.{codes, decimal, if◌then◌else◌}
use Rattle.irq_plan.specs.declared.event.Event.{Event}
use Rattle.nk_bits.specs.Accesses.{wp_of}
use Rattle.report_text.specs.RunLines.{hex_16}
use Rattle.cpu_step.specs.Processor.{Processor}
use Rattle.gate_state.specs.declared.seen.Step.{Step}
use Rattle.gate_state.specs.MachineSteps.{move_of, step_by}
use Rattle.gate_state.specs.WholeMachine.{HeldState}
use Rattle.step_trace.specs.declared.asked.Shown.{Shown}
use Rattle.step_trace.specs.declared.line.Told.{Told}
use Rattle.step_trace.specs.declared.telling.Here.{Here}
use Rattle.step_trace.specs.RestsOfTraces.{head_text, step_shown}
use Rattle.step_trace.specs.StepChanges.{Change, step_changes}
use Rattle.step_trace.specs.StepLines.{StepLine, Was, is_wanted, line_of, size_by, stand_in, was_by}
use Rattle.step_trace.specs.StepTexts.{changes_text, line_text, stand_name, was_text}
use Rattle.step_trace.specs.ToldSteps.{IsBefore, IsHere, IsToldOf, was_before}
use Rattle.step_trace.specs.Traces.{text_where}
use Rattle.step_trace.proofs.WhatSteps.{was_here}

-- what stands behind a beginning
head_then : (turns stand cpl rip behind : List ℕ)
    → (turns ++ (codes " " ++ (stand ++ (codes " " ++ (cpl ++ (codes " " ++ rip)))))) ++ behind
    ≡ turns ++ (codes " " ++ (stand ++ (codes " " ++ (cpl ++ (codes " " ++ (rip ++ behind))))))
head_then turns stand cpl rip behind =
    append_assoc turns (codes " " ++ (stand ++ (codes " " ++ (cpl ++ (codes " " ++ rip))))) behind
    ∙ ap (λ l. turns ++ (codes " " ++ l)) (append_assoc stand (codes " " ++ (cpl ++ (codes " " ++ rip))) behind
    ∙ ap (λ l. stand ++ (codes " " ++ l)) (append_assoc cpl (codes " " ++ rip) behind))

-- what stands behind the beginning of a line
abbrev behind_text : Was → List Change → List ℕ
behind_text was changes = was_text was ++ (changes_text changes ++ codes "\n")

-- the whole line
line_whole : (plan : List Event) (h next : HeldState)
    → head_text h.state.turns h.state.processor ++ behind_text (line_of plan h next).was (line_of plan h next).changes
    ≡ line_text (line_of plan h next)
unfolding line_text line_of
line_whole plan h next =
    head_then (decimal h.state.turns) (stand_name (stand_in h.state.processor)) (decimal h.state.processor.regs.cpl)
    (hex_16 h.state.processor.regs.rip) (behind_text (line_of plan h next).was (line_of plan h next).changes)

-- what the step was
line_was : (plan : List Event) (h next : HeldState)
    → (line_of plan h next).was ≡ was_by (move_of plan h.state) h.state h.real
unfolding line_of
line_was plan h next = refl

-- its changes, of the states' processors and memories
line_changes : (plan : List Event) (h next : HeldState)
    → (line_of plan h next).changes
    ≡ step_changes (size_by (was_by (move_of plan h.state) h.state h.real)) (step_by (move_of plan h.state) h.state)
    h.state.processor next.state.processor h.real next.real
unfolding line_of
line_changes plan h next = refl

-- the text of a line where it is wanted
wanted_text : (wanted : Bool) (line : StepLine) (bytes : List ℕ) → bytes ≡ line_text line
    → (if wanted then bytes else []) ≡ text_where wanted line
wanted_text true line bytes same = same
wanted_text false line bytes same = refl

-- the changes by what is kept of the state before, with memory as it was and as it is
abbrev changes_by : Here → Step → Processor → Processor → List ℕ → List ℕ → List Change
changes_by here it p q m n = step_changes (size_by (was_before here.before it here.event)) it p q m n

module _ (here : Here) (plan : List Event) (h next : HeldState) (it : Step) (q : Processor) (m n : List ℕ)
    (is : IsHere here plan h) (same : it ≡ step_by (move_of plan h.state) h.state)
    (is_old : h.real ≡ m) (is_processor : q ≡ next.state.processor) (is_new : n ≡ next.real) where
  -- what is kept is of memory as it was
  kept_before : IsBefore here.before h.state.processor m
  kept_before = subst (IsBefore here.before h.state.processor) is_old is.before

  -- the changes are those of the line
  same_changes : changes_by here it h.state.processor q m n ≡ (line_of plan h next).changes
  same_changes =
      let p = h.state.processor in
      let taken = step_by (move_of plan h.state) h.state in
      let size = size_by (was_by (move_of plan h.state) h.state h.real) in
      ap (λ was. step_changes (size_by was) it p q m n) (was_here here plan h it is same)
      ∙ ap (λ step. step_changes size step p q m n) same
      ∙ ap (λ r. step_changes size taken p r m n) is_processor
      ∙ ap (λ l. step_changes size taken p next.state.processor l n) (sym is_old)
      ∙ ap (λ l. step_changes size taken p next.state.processor h.real l) is_new
      ∙ sym (line_changes plan h next)

  -- the bytes are those of the line
  same_bytes : (head put : List ℕ) → head ≡ head_text h.state.turns h.state.processor
      → put ≡ head ++ behind_text (was_before here.before it here.event) (changes_by here it h.state.processor q m n)
      → put ≡ line_text (line_of plan h next)
  same_bytes head put is_head is_put =
      let start = head_text h.state.turns h.state.processor in
      let changes = changes_by here it h.state.processor q m n in
      is_put
      ∙ ap (λ l. l ++ behind_text (was_before here.before it here.event) changes) is_head
      ∙ ap (λ was. start ++ behind_text was changes) (was_here here plan h it is same ∙ sym (line_was plan h next))
      ∙ ap (λ l. start ++ behind_text (line_of plan h next).was l) same_changes
      ∙ line_whole plan h next

  -- what of them is shown
  pub shown_put : (told : Told) (shown : Shown) (wanted : Bool) (head put bytes : List ℕ)
      → head ≡ head_text h.state.turns h.state.processor
      → ((p : Processor) → IsBefore here.before p m
      → put ≡ head ++ behind_text (was_before here.before it here.event) (changes_by here it p q m n))
      → ((p : Processor) → IsBefore here.before p m → IsToldOf told (changes_by here it p q m n))
      → ((events : List Event) (old new : HeldState) → here.in_outer ≡ wp_of old.state.processor.control.cr0
      → it ≡ step_by (move_of events old.state) old.state → IsToldOf told (line_of events old new).changes
      → wanted ≡ is_wanted shown (line_of events old new))
      → bytes ≡ put → (if wanted then bytes else []) ≡ step_shown shown plan h next
  shown_put told shown wanted head put bytes is_head is_put is_told judged lent =
      wanted_text wanted (line_of plan h next) bytes
      (lent ∙ same_bytes head put is_head (is_put h.state.processor kept_before))
      ∙ ap (λ b. text_where b (line_of plan h next))
      (judged plan h next is.outer same (subst (IsToldOf told) same_changes (is_told h.state.processor kept_before)))
