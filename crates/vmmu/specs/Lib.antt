-- What a reader must believe.
pub mod TableCalls
pub mod AcceptedCalls
-- Laws: what is proved of the definitions.
pub mod TableCallLaws
