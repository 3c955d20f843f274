use Rattle.std.proofs.Common.{add-one, ap, arith, sym, ◌∙◌}
use Rattle.proc_audit.specs.ProcessList.{link_of}
use Rattle.proc_audit.proofs.ChainSteps.{begun, followed_long, followed_none, followed_on, followed_whole}
use Rattle.proc_audit.proofs.chain.follow.Goals as goal

pub returns-then-count-eq0 : goal.returns-then-count-eq0
returns-then-count-eq0 c =
    followed_none c.args.region.now c.fill.new.self (c.fill.ensures.len ∙ c.requires) (sym (c.fill.ensures.len ∙ c.requires) ∙ c.if-count-eq0.true)

pub loop-links-init : goal.loop-links-init
loop-links-init c =
    begun c.args.region.now c.fill.new.self _ c.requires (omega (arith, c.if-count-eq0.false)) (c.fill.ensures.after (λ y e. e))

pub loop-links-preserved : goal.loop-links-preserved
loop-links-preserved c =
    rw (add-one c.loop-links._links)
    (followed_on c.args.region.now c.loop-links._links c.loop-links.slot c.next_at-next.result c.in-Some.linked c.loop-links.met
    c.loop-links.invariant c.next_at-next.ensures
    (ap (λ n. link_of n c.next_at-next.result) (sym (c.fill.ensures.len ∙ c.requires)) ∙ sym c.in-Some.ensures))

pub returns-in_default : goal.returns-in_default
returns-in_default c =
    followed_whole c.args.region.now c.loop-links._links c.loop-links.slot c.next_at-next.result c.loop-links.met
    c.loop-links.invariant (omega arith) c.next_at-next.ensures
    (ap (λ n. link_of n c.next_at-next.result) (sym (c.fill.ensures.len ∙ c.requires)) ∙ sym c.in_default.ensures)

pub returns : goal.returns
returns c =
    followed_long c.args.region.now c.loop-links._links c.loop-links.slot c.loop-links.met c.loop-links.invariant (omega arith)
