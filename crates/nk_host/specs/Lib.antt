-- What a reader must believe.
pub mod FaultCounts
pub mod Told
pub mod Files
pub mod Taken
pub mod TextPuts
pub mod SourceTakes
pub mod PiecesOut
pub mod CountedStream
pub mod Streams
pub mod Attempts
pub mod ShelfInMemory
pub mod SinkInMemory
pub mod SourceInMemory
-- Laws: what is proved of the definitions.
pub mod PieceLaws
