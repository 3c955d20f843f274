-- What a reader must believe.
pub mod ValueRules
-- Laws: what is proved of the definitions.
pub mod ValueLaws
