use Rattle.std.proofs.Common.{sym, ap, subst, ◌∙◌}
use Rattle.gate_state.specs.declared.moves.Move.{Move}
use Rattle.phys_mem.specs.Memory.{byte_at}
use Rattle.gate_state.specs.MachineSteps.{seen_by}
use Rattle.gate_state.specs.WholeMachine.{HeldState, known_of}
use Rattle.gate_state.specs.declared.seen.Step.TheVariants as step
use Rattle.gate_state.specs.declared.touched.StepTouched.{StepTouched}
use Rattle.gate_state.specs.StepsTouched.{ShowsWithin, touched_by_move}
use Rattle.gate_state.proofs.ShownTouched.{nothing_within, shown_alone}
use Rattle.gate_state.proofs.StepLemmas.{next_alone, stepped_is}
use Rattle.gate_state.proofs.whole.Whole.advance.Goals as goal

pub returns-in-Take-clause-next : goal.returns-in-Take-clause-next
returns-in-Take-clause-next c =
    ap known_of c.take.ensures.taken
    ∙ stepped_is c.args.plan.now (known_of c.args.self.now) _ (sym c.in-Take.is ∙ c.next_move.ensures.moved)
    ∙ next_alone c.args.plan.now (known_of c.args.self.now) c.requires.no_body

pub returns-in-Turn-clause-next : goal.returns-in-Turn-clause-next
returns-in-Turn-clause-next c =
    c.turn.ensures.turned
    ∙ stepped_is c.args.plan.now (known_of c.args.self.now) _ (sym c.in-Turn.is ∙ c.next_move.ensures.moved)
    ∙ next_alone c.args.plan.now (known_of c.args.self.now) c.requires.no_body

pub returns-in-Take-clause-seen : goal.returns-in-Take-clause-seen
returns-in-Take-clause-seen c =
    c.take.ensures.seen ∙ ap (λ (m : Move). seen_by m c.args.self.now.state) (sym c.in-Take.is ∙ c.next_move.ensures.moved)

pub returns-in-Turn-clause-seen : goal.returns-in-Turn-clause-seen
returns-in-Turn-clause-seen c =
    c.turn.ensures.seen ∙ ap (λ (m : Move). seen_by m c.args.self.now.state) (sym c.in-Turn.is ∙ c.next_move.ensures.moved)

pub returns-in-Take-clause-touched : goal.returns-in-Take-clause-touched
returns-in-Take-clause-touched c = λ p out. ap (λ (h : HeldState). byte_at h.real p) c.take.ensures.taken

pub returns-in-Take-clause-told : goal.returns-in-Take-clause-told
returns-in-Take-clause-told c =
    ap (λ (m : Move). touched_by_move m c.args.self.now.state c.args.self.now.real) (sym c.in-Take.is ∙ c.next_move.ensures.moved)

pub returns-in-Turn-clause-told : goal.returns-in-Turn-clause-told
returns-in-Turn-clause-told c =
    c.turn.ensures.told
    ∙ ap (λ (m : Move). touched_by_move m c.args.self.now.state c.args.self.now.real) (sym c.in-Turn.is ∙ c.next_move.ensures.moved)

pub returns-in-Take-clause-shown : goal.returns-in-Take-clause-shown
returns-in-Take-clause-shown c = nothing_within (step.Seen c.take.result) _

pub returns-in-Turn-clause-shown : goal.returns-in-Turn-clause-shown
returns-in-Turn-clause-shown c =
    subst (λ (most : StepTouched). ShowsWithin (step.Seen c.turn.result.0) c.turn.result.1 most)
    (shown_alone c.args.self.now.state c.args.self.now.real c.requires.no_body) c.turn.ensures.shown
