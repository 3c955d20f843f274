-- What a reader must believe.
pub mod Widths
pub mod Prefixes
pub mod Immediates
pub mod ModRm
pub mod Bounds
pub mod Protected
-- Laws: what is proved of the definitions.
pub mod FieldLaws
