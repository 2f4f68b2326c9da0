pub mod ItemLemmas
pub mod AnswerLemmas
pub mod HeardLemmas
pub mod PortLemmas
