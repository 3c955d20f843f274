use Rattle.nk_body.proofs.StoresKept.{StoringLaws, books_stay, nested_stays, unguarded}
use Rattle.nk_body.proofs.laws.stores_law.Goals as goal

pub returns : goal.returns
returns c =
    let laws : StoringLaws = record { memory = c.memory_law.ensures; tables = c.page_tables_law.ensures } in
    record {
      nested = λ kinds root ledger m ws fixed are. nested_stays laws kinds ws are root ledger m fixed;
      sound = λ kinds root m ws sound are. c.page_tables_law.ensures.sound kinds root m ws sound (unguarded laws kinds ws are);
      books = books_stay laws;
    }
