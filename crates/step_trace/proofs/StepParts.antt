-- The text behind the state that a step began at, part by part.
use Rattle.std.proofs.Common.{◌≡◌, ℕ, ◌+◌, ◌/◌, Bool, List, ◌++◌, length, sym, ap, ◌∙◌, append_assoc}
use Rattle.std.specs.Prelude.{codes, not, ◌==◌, ◌&&◌}
use Rattle.nk_bits.specs.declared.control.Control.{Control}
use Rattle.nk_bits.specs.Translations.{Translations}
use Rattle.x86_regs.specs.declared.registers.Regs.{Regs}
use Rattle.x86_regs.specs.Operands.{wrapped}
use Rattle.cpu_step.specs.Processor.{Processor}
use Rattle.gate_state.specs.declared.seen.Step.{Step}
use Rattle.step_trace.specs.StepChanges.{Change, Halted, Rip, control_changes, flushes, memory_changes, shown_changes, step_changes, translation_changes, where_so}
use Rattle.step_trace.specs.StepTexts.{changes_text}
use Rattle.step_trace.specs.ToldSteps.{registers_behind}
use Rattle.step_trace.proofs.ChangeTexts.{changes_behind}

-- the text of all changes
all_changes : (rip rest control memory kept shown halted : List Change)
    → changes_text ((rip ++ rest) ++ (control ++ (memory ++ (kept ++ (shown ++ halted)))))
    ≡ changes_text rip ++ (changes_text rest ++ (changes_text control ++ (changes_text memory
    ++ (changes_text kept ++ (changes_text shown ++ changes_text halted)))))
all_changes rip rest control memory kept shown halted =
    changes_behind (rip ++ rest) (control ++ (memory ++ (kept ++ (shown ++ halted))))
    ∙ ap (λ l. changes_text (rip ++ rest) ++ l) (changes_behind control (memory ++ (kept ++ (shown ++ halted)))
    ∙ ap (λ l. changes_text control ++ l) (changes_behind memory (kept ++ (shown ++ halted))
    ∙ ap (λ l. changes_text memory ++ l) (changes_behind kept (shown ++ halted)
    ∙ ap (λ l. changes_text kept ++ l) (changes_behind shown halted))))
    ∙ ap (λ l. l ++ (changes_text control ++ (changes_text memory ++ (changes_text kept ++ (changes_text shown ++ changes_text halted)))))
    (changes_behind rip rest)
    ∙ append_assoc (changes_text rip) (changes_text rest)
    (changes_text control ++ (changes_text memory ++ (changes_text kept ++ (changes_text shown ++ changes_text halted))))

-- four texts, one put behind the other
joined : (o w r x n l1 l2 l3 l4 : List ℕ) → l1 ≡ o ++ w → l2 ≡ l1 ++ r → l3 ≡ l2 ++ x → l4 ≡ l3 ++ n
    → l4 ≡ o ++ (w ++ ((r ++ x) ++ n))
joined o w r x n l1 l2 l3 l4 one two three four =
    four
    ∙ ap (λ l. l ++ n) (three ∙ ap (λ l. l ++ x) (two ∙ ap (λ l. l ++ r) one))
    ∙ append_assoc ((o ++ w) ++ r) x n
    ∙ append_assoc (o ++ w) r (x ++ n)
    ∙ append_assoc o w (r ++ (x ++ n))
    ∙ ap (λ l. o ++ (w ++ l)) (sym (append_assoc r x n))

-- RIP's part, and what is put behind it
abbrev behind : Step → Processor → Regs → Control → Translations → Translations → Bool → ℕ → List ℕ → List ℕ → List ℕ
behind it q regs control kept later halted frames m n =
    changes_text (registers_behind regs q.regs) ++ (changes_text (control_changes control q.control)
    ++ (changes_text (memory_changes frames 0 m n) ++ (changes_text (translation_changes (flushes it) kept later)
    ++ (changes_text (shown_changes it) ++ changes_text (where_so (not halted && q.halted) Halted)))))

abbrev pub rip_part : ℕ → Regs → Regs → List ℕ
rip_part size before after = changes_text (where_so (not (wrapped (before.rip + size) == after.rip)) (Rip after.rip))

-- the whole, where what is kept of the state before is that of its processor
pub step_text : (size : ℕ) (it : Step) (p q : Processor) (m n : List ℕ) (regs : Regs) (control : Control) (kept later : Translations)
    (halted : Bool) (o w l1 l2 l3 l4 : List ℕ)
    → regs ≡ p.regs → control ≡ p.control → kept ≡ p.tlb → halted ≡ p.halted → later ≡ q.tlb → length m ≡ length n
    → l1 ≡ o ++ w → l2 ≡ l1 ++ rip_part size regs q.regs
    → l3 ≡ l2 ++ behind it q regs control kept later halted (length n / 4096) m n
    → l4 ≡ l3 ++ codes "\n"
    → l4 ≡ o ++ (w ++ (changes_text (step_changes size it p q m n) ++ codes "\n"))
unfolding step_changes
step_text size it p q m n regs control kept later halted o w l1 l2 l3 l4 e1 e2 e3 e4 e5 e6 one two three four =
    joined o w (rip_part size p.regs q.regs) (behind it q p.regs p.control p.tlb q.tlb p.halted (length m / 4096) m n) (codes "\n") l1 l2 l3 l4 one
    (two ∙ ap (λ r. l1 ++ rip_part size r q.regs) e1)
    (three
    ∙ ap (λ r. l2 ++ behind it q r control kept later halted (length n / 4096) m n) e1
    ∙ ap (λ c. l2 ++ behind it q p.regs c kept later halted (length n / 4096) m n) e2
    ∙ ap (λ k. l2 ++ behind it q p.regs p.control k later halted (length n / 4096) m n) e3
    ∙ ap (λ k. l2 ++ behind it q p.regs p.control p.tlb k halted (length n / 4096) m n) e5
    ∙ ap (λ h. l2 ++ behind it q p.regs p.control p.tlb q.tlb h (length n / 4096) m n) e4
    ∙ ap (λ f. l2 ++ behind it q p.regs p.control p.tlb q.tlb p.halted (f / 4096) m n) (sym e6))
    four
    ∙ ap (λ l. o ++ (w ++ (l ++ codes "\n")))
    (sym (all_changes (where_so (not (wrapped (p.regs.rip + size) == q.regs.rip)) (Rip q.regs.rip)) (registers_behind p.regs q.regs)
    (control_changes p.control q.control) (memory_changes (length m / 4096) 0 m n) (translation_changes (flushes it) p.tlb q.tlb)
    (shown_changes it) (where_so (not p.halted && q.halted) Halted)))
