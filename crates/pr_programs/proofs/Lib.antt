pub mod ItemLemmas
pub mod ReadBack
pub mod RowLemmas
pub mod SavedLemmas
pub mod TypedLemmas
