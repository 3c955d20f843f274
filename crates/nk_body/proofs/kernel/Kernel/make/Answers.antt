use Rattle.std.proofs.Common.{refl}
use Rattle.nk_body.specs.NestedRecord.{books_in}
use Rattle.nk_body.specs.SourceWords.{sourced_of}
use Rattle.nk_body.proofs.BooksLeft.{call_leaves, err_on, leaves_all}
use Rattle.nk_body.proofs.CallsMade.{call_made}
use Rattle.nk_body.proofs.kernel.Kernel.make.Goals as goal

pub returns-in-SetHandler-clause-made : goal.returns-in-SetHandler-clause-made
returns-in-SetHandler-clause-made c = call_made c.in-SetHandler.is (c.set_handler.ensures.made (sourced_of c.args.source))

pub returns-in-SetHandler-clause-leaves : goal.returns-in-SetHandler-clause-leaves
returns-in-SetHandler-clause-leaves c = call_leaves c.in-SetHandler.is c.set_handler.ensures.leaves

pub returns-in-DeclareTable-clause-made : goal.returns-in-DeclareTable-clause-made
returns-in-DeclareTable-clause-made c = call_made c.in-DeclareTable.is (c.declare_table.ensures.made (sourced_of c.args.source))

pub returns-in-DeclareTable-clause-leaves : goal.returns-in-DeclareTable-clause-leaves
returns-in-DeclareTable-clause-leaves c = call_leaves c.in-DeclareTable.is c.declare_table.ensures.leaves

pub returns-in-WriteEntry-clause-made : goal.returns-in-WriteEntry-clause-made
returns-in-WriteEntry-clause-made c = call_made c.in-WriteEntry.is (c.write_entry.ensures.made (sourced_of c.args.source))

pub returns-in-WriteEntry-clause-leaves : goal.returns-in-WriteEntry-clause-leaves
returns-in-WriteEntry-clause-leaves c = call_leaves c.in-WriteEntry.is c.write_entry.ensures.leaves

pub returns-in-RemoveTable-clause-made : goal.returns-in-RemoveTable-clause-made
returns-in-RemoveTable-clause-made c = call_made c.in-RemoveTable.is (c.remove_table.ensures.made (sourced_of c.args.source))

pub returns-in-RemoveTable-clause-leaves : goal.returns-in-RemoveTable-clause-leaves
returns-in-RemoveTable-clause-leaves c = call_leaves c.in-RemoveTable.is c.remove_table.ensures.leaves

pub returns-in-LoadRoot-clause-made : goal.returns-in-LoadRoot-clause-made
returns-in-LoadRoot-clause-made c = call_made c.in-LoadRoot.is (c.load_root.ensures.made (sourced_of c.args.source))

pub returns-in-LoadRoot-clause-leaves : goal.returns-in-LoadRoot-clause-leaves
returns-in-LoadRoot-clause-leaves c = call_leaves c.in-LoadRoot.is c.load_root.ensures.leaves

pub returns-in-DeclarePages-clause-made : goal.returns-in-DeclarePages-clause-made
returns-in-DeclarePages-clause-made c = call_made c.in-DeclarePages.is (c.declare_pages.ensures.made (sourced_of c.args.source))

pub returns-in-DeclarePages-clause-leaves : goal.returns-in-DeclarePages-clause-leaves
returns-in-DeclarePages-clause-leaves c = call_leaves c.in-DeclarePages.is c.declare_pages.ensures.leaves

pub returns-in-Allocate-clause-made : goal.returns-in-Allocate-clause-made
returns-in-Allocate-clause-made c = call_made c.in-Allocate.is (c.allocate.ensures.made (sourced_of c.args.source))

pub returns-in-Allocate-clause-leaves : goal.returns-in-Allocate-clause-leaves
returns-in-Allocate-clause-leaves c = call_leaves c.in-Allocate.is c.allocate.ensures.leaves

pub returns-in-Free-clause-made : goal.returns-in-Free-clause-made
returns-in-Free-clause-made c = call_made c.in-Free.is (c.free.ensures.made (sourced_of c.args.source))

pub returns-in-Free-clause-leaves : goal.returns-in-Free-clause-leaves
returns-in-Free-clause-leaves c = call_leaves c.in-Free.is c.free.ensures.leaves

pub returns-in-Write-clause-made : goal.returns-in-Write-clause-made
returns-in-Write-clause-made c = call_made c.in-Write.is (c.write.ensures.made c.in-Write.source)

pub returns-in-Write-clause-leaves : goal.returns-in-Write-clause-leaves
returns-in-Write-clause-leaves c = call_leaves c.in-Write.is (c.write.ensures.leaves c.in-Write.source)

pub returns-in-NoCall-clause-made : goal.returns-in-NoCall-clause-made
returns-in-NoCall-clause-made c = call_made c.in-NoCall.is (c.refuse.ensures.made (sourced_of c.args.source))

pub returns-in-NoCall-clause-leaves : goal.returns-in-NoCall-clause-leaves
returns-in-NoCall-clause-leaves c = leaves_all (books_in c.args.self.now c.args.mem.now).ledger.book c.args.call c.args.mem.now c.args.mem.now refl

pub returns-in-NoCall-clause-refused : goal.returns-in-NoCall-clause-refused
returns-in-NoCall-clause-refused c = err_on c.refuse.result (refl, refl)
