use Rattle.std.proofs.Common.{ap, subst, ◌∙◌, arith}
use Rattle.nk_bits.specs.Accesses.{wp_of}
use Rattle.boot_map.specs.Division.{IsLayout}
use Rattle.gate_state.specs.MachineStates.{Opening}
use Rattle.gate_state.specs.WholeMachine.{HeldState}
use Rattle.gate_state.proofs.OpeningWhole.{opening_whole, starts_at, starts_set}
use Rattle.gate_state.proofs.outer.OuterMachine.start.Goals as goal

pub invariant_of-whole : goal.invariant_of-whole
invariant_of-whole c =
    let o : Opening = record { image = c.args.image.now; frames = c.args.layout.now.frames } in (
      opening_whole o c.args.input.items c.in-Ok.cpu c.args.mem c.args.kernel
          (record { bytes = c.entry-entry.ensures.bytes; layout = subst (IsLayout c.args.image.now) c.requires.layout.division c.requires.layout; pages = c.pages-pages.ensures.list; clean = c.clean_image_law.ensures c.requires.clean })
          c.safety_law.ensures.opening c.in-Ok.ensures c.requires.opening c.requires.kinds c.requires.ledger c.requires.root c.requires.books,
      omega (arith, c.in-Ok-with_capacity.ensures.exact),
    )

pub invariant_of-result : goal.invariant_of-result
invariant_of-result c =
    ap (λ (w : HeldState). wp_of w.state.processor.control.cr0) c.in-Ok-new.ensures.ok
    ∙ starts_set (record { image = c.args.image.now; frames = c.args.layout.now.frames }) c.args.input.items c.in-Ok.cpu c.in-Ok.ensures

pub returns-in-Ok-new-clause-state : goal.returns-in-Ok-new-clause-state
returns-in-Ok-new-clause-state c =
    ap (λ (w : HeldState). w.state) c.in-Ok-new.ensures.ok
    ∙ starts_at (record { image = c.args.image.now; frames = c.args.layout.now.frames }) c.args.input.items c.in-Ok.cpu c.args.mem c.args.kernel c.in-Ok.ensures c.requires.opening c.requires.kinds c.requires.ledger

pub outer_law-requires : goal.outer_law-requires
outer_law-requires c =
    starts_set (record { image = c.args.image.now; frames = c.args.layout.now.frames }) c.args.input.items c.in-Ok.cpu c.in-Ok.ensures
