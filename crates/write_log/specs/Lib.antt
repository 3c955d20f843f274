-- What a reader must believe.
pub mod LogRecords
pub mod LogBytes
-- Laws: what is proved of the definitions.
pub mod LogLaws
-- Words of private clauses and proofs.
pub mod RecordStores
