use Rattle.std.proofs.Common.{ap, subst, sym, ◌&&◌, ◌==◌}
use Rattle.page_desc.specs.DescriptorBytes.{HoldsDescriptors}
use Rattle.page_desc.proofs.ReplacedCounts.{counts_replaced, links_counted, links_room, loose_counted, loose_room}
use Rattle.page_desc.proofs.frames.Frames.replace.Goals as goal

pub change-requires-clause-counted : goal.change-requires-clause-counted
change-requires-clause-counted c =
    loose_counted c.self.inside.count c.args.mem.now (subst (λ k. HoldsDescriptors k c.args.mem.now) (sym c.self.view_is) c.requires.held)
    c.args.level c.args.old.0 c.args.new.0 c.requires.counted _ c.frame.result (ap (λ b. c.args.level == 1 && b) c.is_loose.ensures) c.frame.ensures.value

pub change-requires-clause-room : goal.change-requires-clause-room
change-requires-clause-room c =
    loose_room c.self.inside.count c.args.mem.now (subst (λ k. HoldsDescriptors k c.args.mem.now) (sym c.self.view_is) c.requires.held)
    c.args.level c.args.old.0 c.args.new.0 c.requires.counted _ c.frame-2.result (ap (λ b. c.args.level == 1 && b) c.is_loose-2.ensures) c.frame-2.ensures.value

pub change-requires-2-clause-counted : goal.change-requires-2-clause-counted
change-requires-2-clause-counted c =
    links_counted c.self.inside.count c.args.mem.now (subst (λ k. HoldsDescriptors k c.args.mem.now) (sym c.self.view_is) c.requires.held)
    c.args.level c.args.old.0 c.args.new.0 c.requires.counted c.change.new.mem c.change.ensures.differs _ c.frame-3.result
    (λ j. c.is_link_level-is_link.ensures j && c.is_present.ensures.value j) c.frame-3.ensures.value

pub change-requires-2-clause-room : goal.change-requires-2-clause-room
change-requires-2-clause-room c =
    links_room c.self.inside.count c.args.mem.now (subst (λ k. HoldsDescriptors k c.args.mem.now) (sym c.self.view_is) c.requires.held)
    c.args.level c.args.old.0 c.args.new.0 c.requires.counted c.change.new.mem c.change.ensures.differs _ c.frame-4.result
    (λ j. c.is_link_level-is_link.ensures j && c.is_present-2.ensures.value j) c.frame-4.ensures.value

pub returns-clause-replaced : goal.returns-clause-replaced
returns-clause-replaced c =
    counts_replaced c.self.inside.count c.args.level c.args.old.0 c.args.new.0 c.frame.result c.frame-2.result c.frame-3.result c.frame-4.result
    (c.args.level == 1 && c.is_loose.result) (c.args.level == 1 && c.is_loose-2.result)
    (c.is_link_level-is_link.result && c.is_present.result) (c.is_link_level-is_link.result && c.is_present-2.result)
    c.args.mem.now c.change.new.mem c.change-2.new.mem
    (subst (λ k. HoldsDescriptors k c.args.mem.now) (sym c.self.view_is) c.requires.held)
    (record {
      was_is = ap (λ b. c.args.level == 1 && b) c.is_loose.ensures;
      will_is = ap (λ b. c.args.level == 1 && b) c.is_loose-2.ensures;
      from_is = c.frame.ensures.value;
      to_is = c.frame-2.ensures.value;
    })
    (record {
      was_is = λ j. c.is_link_level-is_link.ensures j && c.is_present.ensures.value j;
      will_is = λ j. c.is_link_level-is_link.ensures j && c.is_present-2.ensures.value j;
      from_is = c.frame-3.ensures.value;
      to_is = c.frame-4.ensures.value;
    })
    (record { each = c.change.ensures.each; differs = c.change.ensures.differs })
    (record { each = c.change-2.ensures.each; differs = c.change-2.ensures.differs })
