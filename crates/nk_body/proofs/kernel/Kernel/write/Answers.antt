use Rattle.std.proofs.Common.{◌≡◌, ℕ, length, refl, sym, ap, subst}
use Rattle.phys_mem.specs.MaskedMemory.{seen}
use Rattle.nk_bits.specs.Rules.{rule_of}
use Rattle.region_book.specs.RegionCalls.{fits_in}
use Rattle.nk_body.specs.declared.call.Call.TheVariants.{Write}
use Rattle.nk_body.specs.CallMade.{IsMade}
use Rattle.nk_body.specs.CallRules.{Sourced}
use Rattle.nk_body.specs.NestedRecord.{books_in}
use Rattle.nk_body.specs.SourceWords.{sourced_of}
use Rattle.nk_body.proofs.RegionsMade.{bounds_refused, bytes_counted, source_refused}
use Rattle.nk_body.specs.BooksTouched.{LeavesBooks}
use Rattle.nk_body.proofs.BooksLeft.{leaves_all}
use Rattle.nk_body.proofs.kernel.Kernel.write.Goals as goal

pub returns-in-NotTaken-clause-made : goal.returns-in-NotTaken-clause-made
returns-in-NotTaken-clause-made c place =
    bounds_refused (books_in c.args.self.now c.args.mem.now) (seen c.args.mem.now) c.args.region c.args.offset place c.args.count (sourced_of c.args.source) c.requires.books.books
    c.judge_bounds.result c.judge_bounds.ensures

pub returns-in-Unreadable-clause-made : goal.returns-in-Unreadable-clause-made
returns-in-Unreadable-clause-made c place =
    source_refused (books_in c.args.self.now c.args.mem.now) (seen c.args.mem.now) c.args.region c.args.offset place c.args.count (sourced_of c.args.source) c.requires.books.books
    (ap sourced_of c.in-Unreadable.is) c.requires.source

pub returns-in-Bytes-clause-made : goal.returns-in-Bytes-clause-made
returns-in-Bytes-clause-made c place =
    let count : length c.in-Bytes.bytes.now ≡ c.args.count =
    bytes_counted (fits_in (books_in c.args.self.now c.args.mem.now).ledger.book c.args.region c.args.offset c.args.count) c.args.count
    (sourced_of c.args.source) c.in-Bytes.bytes.now (ap sourced_of c.in-Bytes.is) c.requires.source in
    subst (λ (it : Sourced × ℕ). IsMade (books_in c.args.self.now c.args.mem.now) (seen c.args.mem.now)
    (Write c.args.region c.args.offset place it.1) it.0 (rule_of c.write_bytes.result)
    (books_in c.write_bytes.new.self c.write_bytes.new.mem) (seen c.write_bytes.new.mem))
    (λ i. (sym (ap sourced_of c.in-Bytes.is) i, count i)) (c.write_bytes.ensures.made place)

pub returns-in-NotTaken-clause-leaves : goal.returns-in-NotTaken-clause-leaves
returns-in-NotTaken-clause-leaves c place =
    leaves_all (books_in c.args.self.now c.args.mem.now).ledger.book (Write c.args.region c.args.offset place c.args.count) c.args.mem.now c.args.mem.now refl

pub returns-in-Unreadable-clause-leaves : goal.returns-in-Unreadable-clause-leaves
returns-in-Unreadable-clause-leaves c place =
    leaves_all (books_in c.args.self.now c.args.mem.now).ledger.book (Write c.args.region c.args.offset place c.args.count) c.args.mem.now c.args.mem.now refl

pub returns-in-Bytes-clause-leaves : goal.returns-in-Bytes-clause-leaves
returns-in-Bytes-clause-leaves c place =
    let count : length c.in-Bytes.bytes.now ≡ c.args.count =
    bytes_counted (fits_in (books_in c.args.self.now c.args.mem.now).ledger.book c.args.region c.args.offset c.args.count) c.args.count
    (sourced_of c.args.source) c.in-Bytes.bytes.now (ap sourced_of c.in-Bytes.is) c.requires.source in
    subst (λ n. LeavesBooks (books_in c.args.self.now c.args.mem.now).ledger.book (Write c.args.region c.args.offset place n) c.args.mem.now c.write_bytes.new.mem)
    count (c.write_bytes.ensures.leaves place)
