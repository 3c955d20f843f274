use Rattle.std.proofs.Common.{◌≡◌, ◌+◌, ◌-◌, arith, subst}
use Rattle.tlb_model.specs.TranslationTable.{IsCleanedBy, pairs_of}
use Rattle.tlb_model.proofs.Cleaned.{cleaned_length, cleaned_pairs}
use Rattle.tlb_model.proofs.table.Table.clean.Goals as goal

pub turn-requires-clause-some : goal.turn-requires-clause-some
turn-requires-clause-some c = omega (arith, c.loop-turn.invariant.cleaned.within, c.loop-turn-test.true)

pub loop-turn-preserved : goal.loop-turn-preserved
loop-turn-preserved c =
    let one_less : c.len-turn-end.result - c.loop-turn._turn ≡ c.len-turn-end.result - (c.loop-turn._turn + 1) + 1 = omega (arith, c.loop-turn-test.true) in
    record {
      within = omega (arith, c.loop-turn-test.true);
      table = c.turn.ensures.table;
      cleaned = c.turn.ensures.cleaned (c.len-turn-end.result - (c.loop-turn._turn + 1)) (pairs_of c.args.self.now)
          (subst (λ left. IsCleanedBy c.loop-turn.self.slots c.loop-turn.self.generation c.loop-turn.self.front c.loop-turn.self.ages.items left (pairs_of c.args.self.now)) one_less
          c.loop-turn.invariant.cleaned);
    }

done : (c : goal.After-loop-turn) → IsCleanedBy c.loop-turn.self.slots c.loop-turn.self.generation c.loop-turn.self.front c.loop-turn.self.ages.items 0 (pairs_of c.args.self.now)
done c =
    let none : c.len-turn-end.result - c.loop-turn._turn ≡ 0 = omega (arith, c.loop-turn-test.false) in
    subst (λ left. IsCleanedBy c.loop-turn.self.slots c.loop-turn.self.generation c.loop-turn.self.front c.loop-turn.self.ages.items left (pairs_of c.args.self.now)) none
    c.loop-turn.invariant.cleaned

pub returns-clause-same : goal.returns-clause-same
returns-clause-same c = cleaned_pairs _ _ _ _ _ (done c)

pub returns-clause-clean : goal.returns-clause-clean
returns-clause-clean c = cleaned_length _ _ _ _ _ (done c)
