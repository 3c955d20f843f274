use Rattle.std.proofs.Common.{arith, ◌∙◌, inl}
use Rattle.page_desc.specs.FieldChanges.{IsReadable}
use Rattle.page_desc.proofs.FieldPasses.{readable_left}
use Rattle.page_desc.proofs.MemoryCounts.{links_left, loose_left, marks_left}
use Rattle.page_desc.proofs.counting.count_all.Goals as goal

pub count_loose-requires-clause-readable : goal.count_loose-requires-clause-readable
count_loose-requires-clause-readable c =
    readable_left c.args.kinds.now c.args.count 8 c.args.mem.now c.add_links.new.mem c.requires.count c.requires.readable c.add_links.ensures.differs

pub count_loose-requires-clause-marked : goal.count_loose-requires-clause-marked
count_loose-requires-clause-marked c =
    λ f inside.
    omega (
      arith,
      c.add_links.ensures.each f inside,
      (c.requires.zero f inside).1,
      marks_left c.args.kinds.now c.args.count 8 c.args.mem.now c.add_links.new.mem c.requires.count c.requires.readable c.add_links.ensures.differs f,
    )

pub count_links-requires-clause-readable : goal.count_links-requires-clause-readable
count_links-requires-clause-readable c =
    let one : IsReadable c.args.kinds.now c.add_links.new.mem =
    readable_left c.args.kinds.now c.args.count 8 c.args.mem.now c.add_links.new.mem c.requires.count c.requires.readable c.add_links.ensures.differs in
    let two : IsReadable c.args.kinds.now c.count_loose.new.mem =
    readable_left c.args.kinds.now c.args.count 4 c.add_links.new.mem c.count_loose.new.mem c.requires.count one c.count_loose.ensures.differs in
    readable_left c.args.kinds.now c.args.count 8 c.count_loose.new.mem c.clear_links.new.mem c.requires.count two c.clear_links.ensures.differs

pub returns-clause-loose : goal.returns-clause-loose
returns-clause-loose c =
    λ f inside.
    c.count_links.ensures.differs.others 4 f (inl (omega arith)) (omega arith) inside
    ∙ c.clear_links.ensures.differs.others 4 f (inl (omega arith)) (omega arith) inside
    ∙ c.count_loose.ensures.each f inside
    ∙ loose_left c.args.kinds.now c.args.count 8 c.args.mem.now c.add_links.new.mem c.requires.count c.requires.readable c.add_links.ensures.differs f

pub returns-clause-links : goal.returns-clause-links
returns-clause-links c =
    let one : IsReadable c.args.kinds.now c.add_links.new.mem =
    readable_left c.args.kinds.now c.args.count 8 c.args.mem.now c.add_links.new.mem c.requires.count c.requires.readable c.add_links.ensures.differs in
    let two : IsReadable c.args.kinds.now c.count_loose.new.mem =
    readable_left c.args.kinds.now c.args.count 4 c.add_links.new.mem c.count_loose.new.mem c.requires.count one c.count_loose.ensures.differs in
    λ f inside.
    c.count_links.ensures.each f inside
    ∙ links_left c.args.kinds.now c.args.count 8 c.count_loose.new.mem c.clear_links.new.mem c.requires.count two c.clear_links.ensures.differs f
    ∙ links_left c.args.kinds.now c.args.count 4 c.add_links.new.mem c.count_loose.new.mem c.requires.count one c.count_loose.ensures.differs f
    ∙ links_left c.args.kinds.now c.args.count 8 c.args.mem.now c.add_links.new.mem c.requires.count c.requires.readable c.add_links.ensures.differs f
