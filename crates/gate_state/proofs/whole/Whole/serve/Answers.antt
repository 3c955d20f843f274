use Rattle.std.proofs.Common.{◌≡◌, ℕ, ◌/◌, ◌≤◌, length, refl, sym, ap, subst, ◌∙◌, arith, true}
use Rattle.std.specs.Prelude.{IfSome, OnSome, Option, vec_capacity}
use Rattle.phys_mem.specs.MaskedMemory.{seen}
use Rattle.nk_bits.specs.declared.call.CallWords.{CallWords}
use Rattle.nk_bits.specs.declared.rule.Rule.{Rule}
use Rattle.nk_bits.specs.Translations.{Translations}
use Rattle.cpu_step.specs.Turns.{enters_body}
use Rattle.nk_body.specs.BooksTouched.{LeavesBooks}
use Rattle.nk_body.specs.NestedRecord.{books_in}
use Rattle.nk_body.specs.Calls.{call_of}
use Rattle.nk_body.specs.CallRules.{IsSourceOf, Sourced, bytes_read, wants}
use Rattle.nk_body.specs.SourceWords.{sourced_of}
use Rattle.gate_state.specs.MachineStates.{MachineState, Opening}
use Rattle.gate_state.specs.MachineSteps.{asked_in, call_in, called_in, source_of, took_by, verdict_in}
use Rattle.gate_state.specs.SourceBytes.{source_through}
use Rattle.gate_state.specs.WholeMachine.{HeldState, known_of, served_whole}
use Rattle.gate_state.specs.declared.touched.StepTouched.{StepTouched}
use Rattle.gate_state.specs.StepsTouched.{KeepsOutside, touched_by_call}
use Rattle.gate_state.proofs.CallsTouched.{TouchLaws, call_keeps}
use Rattle.gate_state.proofs.SourceReads.{source_is}
use Rattle.gate_state.proofs.SourceWants.{wants_most}
use Rattle.gate_state.proofs.WholeLemmas.{answer_now, root_stays, second_on, served_is, served_whole_is, sound_is, source_now, source_seen, state_by, tlb_seen, verdict_now}
use Rattle.gate_state.proofs.whole.Whole.serve.Goals as goal

pub take_source-took-requires-clause-sound : goal.take_source-took-requires-clause-sound
take_source-took-requires-clause-sound c =
    let o : Opening = record { image = c.self.inside.image.now; frames = c.self.inside.layout.now.frames } in
    let s : MachineState = state_by c.self.inside.cpu c.self.inside.mem c.self.inside.kernel c.self.inside.turns c.self.inside.taken in
    sound_is c.mask_law.ensures.length o s c.self.inside.kernel c.self.inside.mem c.self.invariant.0 c.self.inside.cpu
    (c.steps_law.ensures.sound o s c.self.invariant.0.admitted c.self.invariant.0.guarded)

pub take_source-took-requires-clause-room : goal.take_source-took-requires-clause-room
take_source-took-requires-clause-room c =
    subst (λ (wanted : Option ℕ). IfSome wanted (λ count. count ≤ vec_capacity c.self.inside.source)) (sym c.wants-wanted.ensures)
    (wants_most (books_in c.self.inside.kernel c.self.inside.mem).ledger.book (call_of c.call_in-call.result) (vec_capacity c.self.inside.source) c.self.invariant.0.guarded.ledger.book c.self.invariant.1)

pub serve-answer-requires-clause-source : goal.serve-answer-requires-clause-source
serve-answer-requires-clause-source c =
    let o : Opening = record { image = c.self.inside.image.now; frames = c.self.inside.layout.now.frames } in
    let s : MachineState = state_by c.self.inside.cpu c.self.inside.mem c.self.inside.kernel c.self.inside.turns c.self.inside.taken in
    let read : Sourced = source_through s.memory s.processor.control.root s.processor.tlb c.source_place-place.result c.wants-wanted.result in
    let alike = source_seen c.mask_law.ensures.length o s c.self.inside.kernel c.self.inside.mem c.self.invariant.0
    (λ m va count. c.steps_law.ensures.masked_source o s m va count c.self.invariant.0.admitted c.self.invariant.0.guarded) c.source_place-place.result c.wants-wanted.result in
    let is : sourced_of c.sourced-source.result ≡ read =
    c.sourced-source.ensures _ c.take_source-took.ensures.took (c.deref.ensures.value ∙ c.take_source-took.ensures.bytes) ∙ alike in
    let P : Option ℕ × Sourced → Type 0 = λ pair. IsSourceOf pair.0 pair.1 in
    let both : (c.wants-wanted.result, read) ≡ (wants (books_in c.self.inside.kernel c.self.inside.mem).ledger.book (call_of c.call_in-call.result), sourced_of c.sourced-source.result) =
    λ i. (c.wants-wanted.ensures i, sym is i) in
    subst P both
    (source_is s.memory s.processor.control.root c.self.invariant.0.guarded.memory.are_bytes s.processor.tlb c.source_place-place.result c.wants-wanted.result)

pub invariant_of-self : goal.invariant_of-self
invariant_of-self c =
    let o : Opening = record { image = c.self.inside.image.now; frames = c.self.inside.layout.now.frames } in
    let s : MachineState = state_by c.self.inside.cpu c.self.inside.mem c.self.inside.kernel c.self.inside.turns c.self.inside.taken in
    let at : enters_body s.processor ≡ true = subst (λ (w : HeldState). enters_body w.state.processor ≡ true) (sym c.self.view_is) c.requires.body in
    let read : Sourced = source_through s.memory s.processor.control.root s.processor.tlb c.source_place-place.result c.wants-wanted.result in
    let alike = source_seen c.mask_law.ensures.length o s c.self.inside.kernel c.self.inside.mem c.self.invariant.0
    (λ m va count. c.steps_law.ensures.masked_source o s m va count c.self.invariant.0.admitted c.self.invariant.0.guarded) c.source_place-place.result c.wants-wanted.result in
    let is : sourced_of c.sourced-source.result ≡ read =
    c.sourced-source.ensures _ c.take_source-took.ensures.took (c.deref.ensures.value ∙ c.take_source-took.ensures.bytes) ∙ alike in
    let kept = c.take_source-took.ensures.cpu
    ∙ ap (λ (tlb : Translations). record s.processor { tlb = tlb })
    (tlb_seen c.mask_law.ensures.length o s c.self.inside.kernel c.self.inside.mem c.self.invariant.0
    (λ m va count. c.steps_law.ensures.masked_source o s m va count c.self.invariant.0.admitted c.self.invariant.0.guarded) c.source_place-place.result c.wants-wanted.result) in
    let state_is = served_is s (books_in c.self.inside.kernel c.self.inside.mem) (books_in c.serve-answer.new.self c.serve-answer.new.mem) (seen c.serve-answer.new.mem)
    c.call_in-call.result c.source_place-place.result c.wants-wanted.result (sourced_of c.sourced-source.result) c.serve-answer.result c.root.result c.take_source-took.new.cpu c.answer_with.new.cpu
    refl c.self.invariant.0.root refl (c.call_in-call.ensures ∙ ap call_in c.regs.ensures) c.source_place-place.ensures c.wants-wanted.ensures is kept
    c.serve-answer.ensures.answer c.serve-answer.ensures.nested c.serve-answer.ensures.memory c.root.ensures c.answer_with.ensures in
    let root_is = root_stays s (books_in c.self.inside.kernel c.self.inside.mem) (books_in c.serve-answer.new.self c.serve-answer.new.mem) (seen c.serve-answer.new.mem)
    c.call_in-call.result c.source_place-place.result c.wants-wanted.result (sourced_of c.sourced-source.result) c.serve-answer.result c.root.result c.take_source-took.new.cpu c.answer_with.new.cpu
    refl c.self.invariant.0.root refl (c.call_in-call.ensures ∙ ap call_in c.regs.ensures) c.source_place-place.ensures c.wants-wanted.ensures is kept
    c.serve-answer.ensures.answer c.serve-answer.ensures.nested c.serve-answer.ensures.memory c.root.ensures c.answer_with.ensures in (
      served_whole_is o s c.self.inside.kernel c.serve-answer.new.self c.self.inside.mem c.serve-answer.new.mem c.answer_with.new.cpu c.self.invariant.0
          (c.steps_law.ensures.body o s c.self.invariant.0.admitted at c.self.invariant.0.guarded) state_is root_is c.serve-answer.ensures.books,
      omega (arith, c.self.invariant.1, c.take_source-took.ensures.room),
    )

pub returns-clause-served : goal.returns-clause-served
returns-clause-served c =
    let o : Opening = record { image = c.self.inside.image.now; frames = c.self.inside.layout.now.frames } in
    let s : MachineState = state_by c.self.inside.cpu c.self.inside.mem c.self.inside.kernel c.self.inside.turns c.self.inside.taken in
    let read : Sourced = source_through s.memory s.processor.control.root s.processor.tlb c.source_place-place.result c.wants-wanted.result in
    let alike = source_seen c.mask_law.ensures.length o s c.self.inside.kernel c.self.inside.mem c.self.invariant.0
    (λ m va count. c.steps_law.ensures.masked_source o s m va count c.self.invariant.0.admitted c.self.invariant.0.guarded) c.source_place-place.result c.wants-wanted.result in
    let is : sourced_of c.sourced-source.result ≡ read =
    c.sourced-source.ensures _ c.take_source-took.ensures.took (c.deref.ensures.value ∙ c.take_source-took.ensures.bytes) ∙ alike in
    let kept = c.take_source-took.ensures.cpu
    ∙ ap (λ (tlb : Translations). record s.processor { tlb = tlb })
    (tlb_seen c.mask_law.ensures.length o s c.self.inside.kernel c.self.inside.mem c.self.invariant.0
    (λ m va count. c.steps_law.ensures.masked_source o s m va count c.self.invariant.0.admitted c.self.invariant.0.guarded) c.source_place-place.result c.wants-wanted.result) in
    let state_is = served_is s (books_in c.self.inside.kernel c.self.inside.mem) (books_in c.serve-answer.new.self c.serve-answer.new.mem) (seen c.serve-answer.new.mem)
    c.call_in-call.result c.source_place-place.result c.wants-wanted.result (sourced_of c.sourced-source.result) c.serve-answer.result c.root.result c.take_source-took.new.cpu c.answer_with.new.cpu
    refl c.self.invariant.0.root refl (c.call_in-call.ensures ∙ ap call_in c.regs.ensures) c.source_place-place.ensures c.wants-wanted.ensures is kept
    c.serve-answer.ensures.answer c.serve-answer.ensures.nested c.serve-answer.ensures.memory c.root.ensures c.answer_with.ensures in
    let source_stays : sourced_of c.sourced-source.result ≡ source_of s = source_now s (books_in c.self.inside.kernel c.self.inside.mem) (books_in c.serve-answer.new.self c.serve-answer.new.mem) (seen c.serve-answer.new.mem)
    c.call_in-call.result c.source_place-place.result c.wants-wanted.result (sourced_of c.sourced-source.result) c.serve-answer.result c.root.result c.take_source-took.new.cpu c.answer_with.new.cpu
    refl c.self.invariant.0.root refl (c.call_in-call.ensures ∙ ap call_in c.regs.ensures) c.source_place-place.ensures c.wants-wanted.ensures is kept
    c.serve-answer.ensures.answer c.serve-answer.ensures.nested c.serve-answer.ensures.memory c.root.ensures c.answer_with.ensures in
    let bytes : c.take_source-took.new.into.items ≡ bytes_read (source_of s) = c.take_source-took.ensures.bytes ∙ ap bytes_read (alike ∙ sym is ∙ source_stays) in
    (λ i. record { opening = o; state = state_is i; source = bytes i }) ∙ ap (λ (w : HeldState). served_whole (known_of w)) c.self.view_is

pub returns-clause-called : goal.returns-clause-called
returns-clause-called c =
    let o : Opening = record { image = c.self.inside.image.now; frames = c.self.inside.layout.now.frames } in
    let s : MachineState = state_by c.self.inside.cpu c.self.inside.mem c.self.inside.kernel c.self.inside.turns c.self.inside.taken in
    let read : Sourced = source_through s.memory s.processor.control.root s.processor.tlb c.source_place-place.result c.wants-wanted.result in
    let alike = source_seen c.mask_law.ensures.length o s c.self.inside.kernel c.self.inside.mem c.self.invariant.0
    (λ m va count. c.steps_law.ensures.masked_source o s m va count c.self.invariant.0.admitted c.self.invariant.0.guarded) c.source_place-place.result c.wants-wanted.result in
    let is : sourced_of c.sourced-source.result ≡ read =
    c.sourced-source.ensures _ c.take_source-took.ensures.took (c.deref.ensures.value ∙ c.take_source-took.ensures.bytes) ∙ alike in
    let kept = c.take_source-took.ensures.cpu
    ∙ ap (λ (tlb : Translations). record s.processor { tlb = tlb })
    (tlb_seen c.mask_law.ensures.length o s c.self.inside.kernel c.self.inside.mem c.self.invariant.0
    (λ m va count. c.steps_law.ensures.masked_source o s m va count c.self.invariant.0.admitted c.self.invariant.0.guarded) c.source_place-place.result c.wants-wanted.result) in
    let source_stays : sourced_of c.sourced-source.result ≡ source_of s = source_now s (books_in c.self.inside.kernel c.self.inside.mem) (books_in c.serve-answer.new.self c.serve-answer.new.mem) (seen c.serve-answer.new.mem)
    c.call_in-call.result c.source_place-place.result c.wants-wanted.result (sourced_of c.sourced-source.result) c.serve-answer.result c.root.result c.take_source-took.new.cpu c.answer_with.new.cpu
    refl c.self.invariant.0.root refl (c.call_in-call.ensures ∙ ap call_in c.regs.ensures) c.source_place-place.ensures c.wants-wanted.ensures is kept
    c.serve-answer.ensures.answer c.serve-answer.ensures.nested c.serve-answer.ensures.memory c.root.ensures c.answer_with.ensures in
    let took = c.take_source-took.ensures.took ∙ ap took_by (alike ∙ sym is ∙ source_stays) in
    let answer = answer_now s (books_in c.self.inside.kernel c.self.inside.mem) (books_in c.serve-answer.new.self c.serve-answer.new.mem) (seen c.serve-answer.new.mem)
    c.call_in-call.result c.source_place-place.result c.wants-wanted.result (sourced_of c.sourced-source.result) c.serve-answer.result c.root.result c.take_source-took.new.cpu c.answer_with.new.cpu
    refl c.self.invariant.0.root refl (c.call_in-call.ensures ∙ ap call_in c.regs.ensures) c.source_place-place.ensures c.wants-wanted.ensures is kept
    c.serve-answer.ensures.answer c.serve-answer.ensures.nested c.serve-answer.ensures.memory c.root.ensures c.answer_with.ensures in
    let call = c.call_in-call.ensures ∙ ap call_in c.regs.ensures in
    (λ i. record { call = call i; source = took i; answer = answer i }) ∙ ap (λ (w : HeldState). called_in w.state) c.self.view_is

pub returns-clause-refused : goal.returns-clause-refused
returns-clause-refused c =
    let o : Opening = record { image = c.self.inside.image.now; frames = c.self.inside.layout.now.frames } in
    let s : MachineState = state_by c.self.inside.cpu c.self.inside.mem c.self.inside.kernel c.self.inside.turns c.self.inside.taken in
    let read : Sourced = source_through s.memory s.processor.control.root s.processor.tlb c.source_place-place.result c.wants-wanted.result in
    let alike = source_seen c.mask_law.ensures.length o s c.self.inside.kernel c.self.inside.mem c.self.invariant.0
    (λ m va count. c.steps_law.ensures.masked_source o s m va count c.self.invariant.0.admitted c.self.invariant.0.guarded) c.source_place-place.result c.wants-wanted.result in
    let is : sourced_of c.sourced-source.result ≡ read =
    c.sourced-source.ensures _ c.take_source-took.ensures.took (c.deref.ensures.value ∙ c.take_source-took.ensures.bytes) ∙ alike in
    let kept = c.take_source-took.ensures.cpu
    ∙ ap (λ (tlb : Translations). record s.processor { tlb = tlb })
    (tlb_seen c.mask_law.ensures.length o s c.self.inside.kernel c.self.inside.mem c.self.invariant.0
    (λ m va count. c.steps_law.ensures.masked_source o s m va count c.self.invariant.0.admitted c.self.invariant.0.guarded) c.source_place-place.result c.wants-wanted.result) in
    let verdict_is = verdict_now s (books_in c.self.inside.kernel c.self.inside.mem) (books_in c.serve-answer.new.self c.serve-answer.new.mem) (seen c.serve-answer.new.mem)
    c.call_in-call.result c.source_place-place.result c.wants-wanted.result (sourced_of c.sourced-source.result) c.serve-answer.result c.root.result c.take_source-took.new.cpu c.answer_with.new.cpu
    refl c.self.invariant.0.root refl (c.call_in-call.ensures ∙ ap call_in c.regs.ensures) c.source_place-place.ensures c.wants-wanted.ensures is kept
    c.serve-answer.ensures.answer c.serve-answer.ensures.nested c.serve-answer.ensures.memory c.root.ensures c.answer_with.ensures in
    subst (λ (w : HeldState). OnSome (verdict_in w.state) (c.serve-answer.new.mem ≡ w.real)) c.self.view_is
    (subst (λ (v : Option Rule). OnSome v (c.serve-answer.new.mem ≡ c.self.inside.mem)) verdict_is
    (second_on _ (c.serve-answer.new.mem ≡ c.self.inside.mem) _ c.serve-answer.ensures.refused))

pub returns-clause-leaves : goal.returns-clause-leaves
returns-clause-leaves c =
    let s : MachineState = state_by c.self.inside.cpu c.self.inside.mem c.self.inside.kernel c.self.inside.turns c.self.inside.taken in
    subst (λ (w : HeldState). LeavesBooks w.state.ledger.book (asked_in w.state) w.real c.serve-answer.new.mem) c.self.view_is
    (subst (λ (call : CallWords). LeavesBooks s.ledger.book (call_of call) c.self.inside.mem c.serve-answer.new.mem)
    (c.call_in-call.ensures ∙ ap call_in c.regs.ensures) c.serve-answer.ensures.leaves)

pub returns-clause-touched : goal.returns-clause-touched
returns-clause-touched c =
    let o : Opening = record { image = c.self.inside.image.now; frames = c.self.inside.layout.now.frames } in
    let s : MachineState = state_by c.self.inside.cpu c.self.inside.mem c.self.inside.kernel c.self.inside.turns c.self.inside.taken in
    let read : Sourced = source_through s.memory s.processor.control.root s.processor.tlb c.source_place-place.result c.wants-wanted.result in
    let alike = source_seen c.mask_law.ensures.length o s c.self.inside.kernel c.self.inside.mem c.self.invariant.0
    (λ m va count. c.steps_law.ensures.masked_source o s m va count c.self.invariant.0.admitted c.self.invariant.0.guarded) c.source_place-place.result c.wants-wanted.result in
    let is : sourced_of c.sourced-source.result ≡ read =
    c.sourced-source.ensures _ c.take_source-took.ensures.took (c.deref.ensures.value ∙ c.take_source-took.ensures.bytes) ∙ alike in
    let P : Option ℕ × Sourced → Type 0 = λ pair. IsSourceOf pair.0 pair.1 in
    let both : (c.wants-wanted.result, read) ≡ (wants (books_in c.self.inside.kernel c.self.inside.mem).ledger.book (call_of c.call_in-call.result), sourced_of c.sourced-source.result) =
    λ i. (c.wants-wanted.ensures i, sym is i) in
    let sourced = subst P both
    (source_is s.memory s.processor.control.root c.self.invariant.0.guarded.memory.are_bytes s.processor.tlb c.source_place-place.result c.wants-wanted.result) in
    let laws : TouchLaws = record { memory = c.memory_law.ensures; frame = c.frame_law.ensures; mask = c.mask_law.ensures } in
    subst (λ (w : HeldState). KeepsOutside c.touched_by_call-touched.result w.real c.serve-answer.new.mem) c.self.view_is
    (subst (λ (it : StepTouched). KeepsOutside it c.self.inside.mem c.serve-answer.new.mem) (sym c.touched_by_call-touched.ensures)
    (call_keeps laws c.self.inside.kernel c.self.inside.mem c.serve-answer.new.mem (call_of c.call_in-call.result)
    (sourced_of c.sourced-source.result) c.self.invariant.0.kept sourced c.serve-answer.ensures.memory))

pub returns-clause-told : goal.returns-clause-told
returns-clause-told c =
    let s : MachineState = state_by c.self.inside.cpu c.self.inside.mem c.self.inside.kernel c.self.inside.turns c.self.inside.taken in
    c.touched_by_call-touched.ensures
    ∙ ap (λ (call : CallWords). touched_by_call (length c.self.inside.mem / 4096) s.ledger.book (call_of call))
    (c.call_in-call.ensures ∙ ap call_in c.regs.ensures)
    ∙ ap (λ (w : HeldState). touched_by_call (length w.real / 4096) w.state.ledger.book (asked_in w.state)) c.self.view_is
