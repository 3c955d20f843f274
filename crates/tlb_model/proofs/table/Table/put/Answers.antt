use Rattle.std.proofs.Common.{◌≡◌, ℕ, ◌+◌, ◌-◌, ◌%◌, ◌<◌, [], ◌∷◌, ◌++◌, drop, length, slice_set, arith, refl, sym, ap, subst, ◌∙◌}
use Rattle.std.proofs.lemmas.List.{length-append}
use Rattle.std.proofs.lemmas.Grind.{common_steps}
use Rattle.circular_buffer.specs.Buffer.{Buffer, buffer}
use Rattle.tlb_model.specs.declared.table.Table.{Table}
use Rattle.tlb_model.specs.TranslationTable.{IsTable, pairs_of}
use Rattle.tlb_model.proofs.Placed.{kept_placed, pairs_placed, table_placed}
use Rattle.tlb_model.proofs.table.Table.put.Goals as goal

within : (c : goal.After-push_back) → c.free_slot-at.result < length c.args.self.now.slots
within c = grind (arith, common_steps)

-- the table with its new slot at this index and place, and this ring
abbrev made : goal.After-push_back → ℕ → ℕ → Buffer ℕ → Table
made c at place ages = record {
  slots = slice_set c.args.self.now.slots at record { page = c.args.page; generation = c.args.self.now.generation; leaf = c.args.leaf; place = place };
  chains = c.insert.new.self;
  order = c.take.new.self;
  ages = ages;
  front = c.args.self.now.front;
  generation = c.args.self.now.generation;
}

abbrev place : goal.After-push_back → ℕ
place c = (c.args.self.now.front + length c.args.self.now.ages.items) % 2048

abbrev ring : goal.After-push_back → Buffer ℕ
ring c = buffer (c.args.self.now.ages.items ++ c.free_slot-at.result ∷ []) c.args.self.now.ages.capacity

ring_is : (c : goal.After-push_back) → c.push_back.new.self ≡ ring c
ring_is c =
    let fits : length (c.args.self.now.ages.items ++ c.free_slot-at.result ∷ []) - c.args.self.now.ages.capacity ≡ 0 =
    omega (arith, c.requires.table.room, c.requires.place, length-append c.args.self.now.ages.items (c.free_slot-at.result ∷ [])) in
    c.push_back.ensures.items ∙ ap (λ n. buffer (drop n (c.args.self.now.ages.items ++ c.free_slot-at.result ∷ [])) c.args.self.now.ages.capacity) fits

-- what holds of the table that the lemmas speak of
made_is : (c : goal.After-push_back) → made c c.from.result c.next_place.result c.push_back.new.self ≡ made c c.free_slot-at.result (place c) (ring c)
made_is c =
    ap (λ at. made c at c.next_place.result c.push_back.new.self) c.from.ensures
    ∙ ap (λ n. made c c.free_slot-at.result n c.push_back.new.self) c.next_place.ensures
    ∙ ap (made c c.free_slot-at.result (place c)) (ring_is c)

pub returns-clause-table : goal.returns-clause-table
returns-clause-table c =
    subst IsTable (sym (made_is c))
    (table_placed c.args.self.now c.requires.table c.args.page c.args.leaf c.free_slot-at.result c.free_slot-at.ensures.slot (within c) c.free_slot-at.ensures.free c.requires.none c.requires.place
    c.insert.new.self c.take.new.self
    (c.insert.ensures.chained _ (kept_placed c.args.self.now c.requires.table c.args.page c.args.leaf c.free_slot-at.result c.free_slot-at.ensures.slot (within c) c.free_slot-at.ensures.free c.requires.none c.requires.place) refl)
    c.take.ensures.order c.take.ensures.count c.take.ensures.taken c.take.ensures.others)

pub returns-clause-youngest : goal.returns-clause-youngest
returns-clause-youngest c =
    ap pairs_of (made_is c)
    ∙ pairs_placed c.args.self.now c.requires.table c.args.page c.args.leaf c.free_slot-at.result c.free_slot-at.ensures.slot (within c) c.free_slot-at.ensures.free c.requires.none c.requires.place
