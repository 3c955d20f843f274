use Rattle.std.proofs.Common.{◌≡◌, ◌==◌, false, sym, ap, ◌∙◌, subst}
use Rattle.std.specs.List.{list_any}
use Rattle.region_book.specs.RegionBytes.{HoldsRegions, KeepsSlots, RegionIndex, book_in}
use Rattle.region_book.proofs.HeldAdded.{added_in, added_keeps, grown_is, held_added}
use Rattle.region_book.proofs.regions.Regions.admit.Goals as goal

-- the new slot wasn't in use
fresh_is : (c : goal.After-self-2-1) → list_any (λ t. t == c.add-slot.result) c.args.self.now.slots ≡ false
fresh_is c = ap (λ (index : RegionIndex). list_any (λ t. t == c.add-slot.result) index.slots) (sym c.self.view_is) ∙ c.add-slot.ensures.fresh

pub returns-clause-added : goal.returns-clause-added
returns-clause-added c =
    ap (λ index. book_in index c.put_row.new.mem)
    (grown_is c.self.inside.slots c.add-slot.new.self c.self.inside.next c.self.inside.declared c.add-slot.result c.args.pages
    c.args.self.now c.add-slot.ensures.added c.self.view_is)
    ∙ added_in c.args.self.now c.args.mem.now c.put_row.new.mem c.requires.held c.add-slot.result c.add-slot.ensures.below
    (fresh_is c) c.put_row.ensures.elsewhere c.args.row c.put_row.ensures.row c.args.pages c.requires.most c.requires.size
    c.requires.pooled c.requires.declared

pub returns-clause-held : goal.returns-clause-held
returns-clause-held c =
    subst (λ index. HoldsRegions index c.put_row.new.mem)
    (sym (grown_is c.self.inside.slots c.add-slot.new.self c.self.inside.next c.self.inside.declared c.add-slot.result
    c.args.pages c.args.self.now c.add-slot.ensures.added c.self.view_is))
    (held_added c.args.self.now c.args.mem.now c.put_row.new.mem c.requires.held c.add-slot.result c.add-slot.ensures.below
    (fresh_is c) c.put_row.ensures.elsewhere c.args.row c.put_row.ensures.row c.args.pages c.requires.most c.requires.size
    c.requires.pooled c.requires.declared c.requires.number c.requires.pages c.requires.count c.put_row.ensures.form)

pub returns-clause-keeps : goal.returns-clause-keeps
returns-clause-keeps c =
    subst (λ index. KeepsSlots c.args.self.now c.args.mem.now index c.put_row.new.mem)
    (sym (grown_is c.self.inside.slots c.add-slot.new.self c.self.inside.next c.self.inside.declared c.add-slot.result
    c.args.pages c.args.self.now c.add-slot.ensures.added c.self.view_is))
    (added_keeps c.args.self.now c.args.mem.now c.put_row.new.mem c.requires.held c.add-slot.result c.add-slot.ensures.below
    (fresh_is c) c.put_row.ensures.elsewhere c.args.row c.put_row.ensures.row c.args.pages c.requires.most c.requires.size
    c.requires.pooled c.requires.declared c.requires.book c.requires.id)
