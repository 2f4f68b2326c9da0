pub mod AddingLemmas
pub mod TableLemmas
