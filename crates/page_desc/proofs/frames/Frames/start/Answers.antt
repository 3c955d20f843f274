use Rattle.std.proofs.Common.{◌≡◌, ◌*◌, ◌<◌, ℕ, length, arith, sym, ap, subst, ◌∙◌, inr}
use Rattle.phys_mem.specs.Memory.{entry_in}
use Rattle.nk_bits.specs.Kinds.{kind_of}
use Rattle.page_desc.specs.DescriptorBytes.{DiffersInDescriptors, HoldsDescriptors, field_in, kind_by}
use Rattle.page_desc.specs.FieldChanges.{IsReadable}
use Rattle.page_desc.proofs.FieldPasses.{readable_left}
use Rattle.page_desc.proofs.MemoryCounts.{links_left, loose_left}
use Rattle.page_desc.proofs.StartedDescriptors.{counted_put, differs_then, field_none, held_put, kinds_put}
use Rattle.page_desc.proofs.frames.Frames.start.Goals as goal

pub count_all-requires-clause-readable : goal.count_all-requires-clause-readable
count_all-requires-clause-readable c =
    let all : c.frames-count.result ≡ length c.args.kinds.now = omega (arith, c.frames-count.ensures.length, c.requires.size) in
    let readable : IsReadable c.args.kinds.now c.args.mem.now =
    record { size = c.requires.size; least = c.requires.least; hidden = c.requires.hidden; slot = c.requires.slot } in
    readable_left c.args.kinds.now c.frames-count.result 0 c.args.mem.now c.put_kinds.new.mem all readable c.put_kinds.ensures.differs

pub count_all-requires-clause-zero : goal.count_all-requires-clause-zero
count_all-requires-clause-zero c =
    let all : c.frames-count.result ≡ length c.args.kinds.now = omega (arith, c.frames-count.ensures.length, c.requires.size) in
    λ f inside. (
      c.put_kinds.ensures.differs.others 4 f (inr (omega arith)) (omega arith) (omega (arith, inside, all))
          ∙ field_none (length c.args.kinds.now) c.args.mem.now 4 f c.requires.zero (omega arith) (omega (arith, inside, all)),
      c.put_kinds.ensures.differs.others 8 f (inr (omega arith)) (omega arith) (omega (arith, inside, all))
          ∙ field_none (length c.args.kinds.now) c.args.mem.now 8 f c.requires.zero (omega arith) (omega (arith, inside, all)),
    )

pub returns-clause-kinds : goal.returns-clause-kinds
returns-clause-kinds c =
    let all : c.frames-count.result ≡ length c.args.kinds.now = omega (arith, c.frames-count.ensures.length, c.requires.size) in
    let size : length c.count_all.new.mem ≡ 4096 * length c.args.kinds.now =
    c.count_all.ensures.elsewhere.size ∙ c.put_kinds.ensures.differs.size ∙ c.requires.size in
    let stand : (f : ℕ) → f < length c.args.kinds.now → kind_by (field_in c.count_all.new.mem 0 f) ≡ kind_of c.args.kinds.now f =
    λ f inside. ap kind_by (c.count_all.ensures.others f (omega (arith, inside, all))).0 ∙ c.put_kinds.ensures.kinds f (omega (arith, inside, all)) in
    kinds_put c.args.kinds.now c.count_all.new.mem size stand

pub returns-clause-counted : goal.returns-clause-counted
returns-clause-counted c =
    let all : c.frames-count.result ≡ length c.args.kinds.now = omega (arith, c.frames-count.ensures.length, c.requires.size) in
    let size : length c.count_all.new.mem ≡ 4096 * length c.args.kinds.now =
    c.count_all.ensures.elsewhere.size ∙ c.put_kinds.ensures.differs.size ∙ c.requires.size in
    let stand : (f : ℕ) → f < length c.args.kinds.now → kind_by (field_in c.count_all.new.mem 0 f) ≡ kind_of c.args.kinds.now f =
    λ f inside. ap kind_by (c.count_all.ensures.others f (omega (arith, inside, all))).0 ∙ c.put_kinds.ensures.kinds f (omega (arith, inside, all)) in
    let readable : IsReadable c.args.kinds.now c.args.mem.now =
    record { size = c.requires.size; least = c.requires.least; hidden = c.requires.hidden; slot = c.requires.slot } in
    counted_put c.args.kinds.now c.count_all.new.mem size stand (entry_in c.args.mem.now)
    (λ f inside. c.count_all.ensures.loose f (omega (arith, inside, all))
    ∙ loose_left c.args.kinds.now c.frames-count.result 0 c.args.mem.now c.put_kinds.new.mem all readable c.put_kinds.ensures.differs f)
    (λ f inside. c.count_all.ensures.links f (omega (arith, inside, all))
    ∙ links_left c.args.kinds.now c.frames-count.result 0 c.args.mem.now c.put_kinds.new.mem all readable c.put_kinds.ensures.differs f)

pub returns-clause-held : goal.returns-clause-held
returns-clause-held c =
    let all : c.frames-count.result ≡ length c.args.kinds.now = omega (arith, c.frames-count.ensures.length, c.requires.size) in
    let differs : DiffersInDescriptors c.args.mem.now c.count_all.new.mem =
    differs_then c.frames-count.result 0 c.args.mem.now c.put_kinds.new.mem c.count_all.new.mem (omega (arith, all, c.requires.size)) c.put_kinds.ensures.differs c.count_all.ensures.elsewhere in
    subst (λ k. HoldsDescriptors k c.count_all.new.mem) (sym all)
    (held_put c.args.kinds.now c.args.mem.now c.count_all.new.mem c.requires.least c.requires.size differs c.requires.zero
    (λ f inside. (c.count_all.ensures.others f (omega (arith, inside, all))).0 ∙ c.put_kinds.ensures.words f (omega (arith, inside, all)))
    (λ f inside. ap kind_by (c.count_all.ensures.others f (omega (arith, inside, all))).0 ∙ c.put_kinds.ensures.kinds f (omega (arith, inside, all)))
    (λ f inside. (c.count_all.ensures.others f (omega (arith, inside, all))).1 ∙ c.put_kinds.ensures.differs.others 12 f (inr (omega arith)) (omega arith) (omega (arith, inside, all))))
