use Rattle.std.proofs.Common.{◌∙◌, ap, length}
use Rattle.phys_mem.specs.MaskedMemory.{seen}
use Rattle.nk_body.specs.Calls.{call_of}
use Rattle.nk_body.specs.NestedRecord.{Books, Nested, books_in}
use Rattle.nk_body.specs.SourceWords.{sourced_of}
use Rattle.replay_core.proofs.SeenSizes.{same_size}
use Rattle.replay_core.proofs.calls.make.Goals as goal

pub returns-then-is_answer-clause-size : goal.returns-then-is_answer-clause-size
returns-then-is_answer-clause-size c =
    let m = c.args.mem.now in
    let books : Books = books_in c.args.kernel.now m in
    let call = call_of c.args.noted.now.call in
    let count = c.call_leaves_law.ensures.count books.frames.kinds books.root books.ledger (seen m) call
    (sourced_of c.args.source) in
    same_size c.mask_law.ensures.length c.args.kernel.now c.serve-answer.new.self m c.serve-answer.new.mem
    c.requires.books c.serve-answer.ensures.books
    (ap (λ (nk : Nested). length nk.tables.kinds) c.serve-answer.ensures.nested ∙ count)

pub returns-else-is_answer-clause-size : goal.returns-else-is_answer-clause-size
returns-else-is_answer-clause-size c =
    let m = c.args.mem.now in
    let books : Books = books_in c.args.kernel.now m in
    let call = call_of c.args.noted.now.call in
    let count = c.call_leaves_law.ensures.count books.frames.kinds books.root books.ledger (seen m) call
    (sourced_of c.args.source) in
    same_size c.mask_law.ensures.length c.args.kernel.now c.serve-answer.new.self m c.serve-answer.new.mem
    c.requires.books c.serve-answer.ensures.books
    (ap (λ (nk : Nested). length nk.tables.kinds) c.serve-answer.ensures.nested ∙ count)
