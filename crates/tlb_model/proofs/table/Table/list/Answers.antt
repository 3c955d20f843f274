use Rattle.std.proofs.Common.{rules, arith, ℕ, List, ◌≡◌, ◌++◌, ◌∷◌, ◌+◌, ◌<◌, ap, sym, ◌∙◌, append_assoc}
use Rattle.std.proofs.lemmas.List.Elements.{All-rest}
use Rattle.nk_bits.specs.Translations.{Pairs}
use Rattle.tlb_model.specs.TranslationTable.{pairs_from}
use Rattle.tlb_model.proofs.Ages.{pairs_told, told_by}
use Rattle.tlb_model.proofs.table.Table.list.Goals as goal

pub loop-at-preserved : goal.loop-at-preserved
loop-at-preserved c =
    let slots = c.args.self.now.slots in
    let g = c.args.self.now.generation in
    let n = c.loop-at.number in
    let rest = pairs_from slots g (n + 1) c.next.new.self in
    record {
      can_next = search rules;
      is_finite = search rules;
      listed =
          ap (λ (front : Pairs). front ++ rest) (search (rules, c.list_one.ensures))
          ∙ append_assoc c.loop-at.pairs.items (told_by slots g n c.in-Some.at.now) rest
          ∙ ap (λ (pairs : Pairs). c.loop-at.pairs.items ++ pairs) (sym (pairs_told slots g n c.in-Some.at.now c.next.new.self))
          ∙ ap (λ ring. c.loop-at.pairs.items ++ pairs_from slots g n ring) (sym c.in-Some.ensures.steps)
          ∙ c.loop-at.invariant.listed;
      places = search (rules, c.in-Some.ensures.steps);
      named = All-rest (λ at. at < 1024) c.in-Some.at.now c.next.new.self c.loop-at.at-iterator c.in-Some.ensures.steps c.loop-at.invariant.named;
    }
