pub mod FieldLaws
pub mod EntryLaws
pub mod ListLaws
pub mod EnvelopeLaws
