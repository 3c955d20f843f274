use Rattle.region_book.proofs.SlotForms.{IsRowPut, row_put}
use Rattle.region_book.proofs.slots.put_row.Goals as goal

put : (c : goal.After-put_frames) → IsRowPut c.args.slot c.args.row.now c.args.mem.now c.put_frames.new.mem
put c =
    row_put c.args.slot c.slot_place-place.result c.args.row.now c.args.mem.now c.put_head.new.mem c.put_frames.new.mem
    c.slot_place-place.ensures.place c.put_frames.ensures.size c.requires.form c.put_head.ensures.holds c.put_head.ensures.differs
    c.put_frames.ensures.frames c.put_frames.ensures.differs

pub returns-clause-row : goal.returns-clause-row
returns-clause-row c = (put c).row

pub returns-clause-form : goal.returns-clause-form
returns-clause-form c = (put c).form

pub returns-clause-elsewhere : goal.returns-clause-elsewhere
returns-clause-elsewhere c = (put c).elsewhere
