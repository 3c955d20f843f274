use Rattle.std.proofs.Common.{◌≡◌, ◌∷◌, ◌++◌, [], ap, ◌∙◌, subst, length, ◌≤◌, arith}
use Rattle.nk_bits.specs.Translations.{Pairs, capacity, dropped, look}
use Rattle.tlb_model.specs.TranslationTable.{pairs_of}
use Rattle.tlb_model.proofs.Bounds.{pairs_bound}
use Rattle.tlb_model.proofs.Filled.{cut_to_fit, filled_by, look_drop}
use Rattle.tlb_model.proofs.table.Table.fill.Goals as goal

pub put-requires : goal.put-requires
put-requires c =
    let old = pairs_of c.args.self.now in
    let left : pairs_of c.make_room.new.self ≡ cut_to_fit (dropped old c.args.page) =
    c.make_room.ensures.youngest ∙ ap cut_to_fit (c.make_places.ensures.same ∙ c.drop_page.ensures.dropped) in
    record {
      table = c.make_room.ensures.table;
      none = ap (λ (pairs : Pairs). look pairs c.args.page) left ∙ look_drop _ (dropped old c.args.page) c.args.page (c.translation_law.ensures.dropped old c.args.page);
      room = c.make_room.ensures.room;
      place = omega (arith, c.make_room.ensures.places, c.make_places.ensures.places);
    }

pub returns-clause-filled : goal.returns-clause-filled
returns-clause-filled c =
    let old = pairs_of c.args.self.now in
    let left : pairs_of c.make_room.new.self ≡ cut_to_fit (dropped old c.args.page) =
    c.make_room.ensures.youngest ∙ ap cut_to_fit (c.make_places.ensures.same ∙ c.drop_page.ensures.dropped) in
    c.put.ensures.youngest
    ∙ ap (λ (pairs : Pairs). pairs ++ (c.args.page, c.args.leaf) ∷ []) left
    ∙ filled_by old c.args.page c.args.leaf (subst (λ (pairs : Pairs). length pairs ≤ capacity) c.drop_page.ensures.dropped (pairs_bound c.drop_page.new.self c.drop_page.ensures.table))
