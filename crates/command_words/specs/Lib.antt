-- What a reader must believe.
pub mod NumberWords
pub mod CommandLine
