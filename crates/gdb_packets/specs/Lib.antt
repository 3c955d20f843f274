-- What a reader must believe.
pub mod Packets
pub mod BytesHeard
-- Laws: what is proved of the definitions.
pub mod PacketLaws
-- Words of private clauses and proofs.
pub mod Sendings
