-- What a reader must believe.
pub mod KeptRuns
pub mod Windows
