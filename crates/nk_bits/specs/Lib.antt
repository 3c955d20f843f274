-- What a reader must believe.
pub mod KernelLayout
pub mod Paging
pub mod EntryForms
pub mod Kinds
pub mod Rules
pub mod AccessRights
pub mod UpperEntries
pub mod Translations
pub mod Claims
pub mod Outcomes
pub mod Accesses
-- Laws: what is proved of the definitions.
pub mod WalkLaws
pub mod TranslationLaws
pub mod AccessLaws
pub mod KindLaws
