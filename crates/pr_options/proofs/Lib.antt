pub mod CommandLemmas
pub mod PartLemmas
pub mod DelayLemmas
pub mod LineLemmas
pub mod NameLemmas
pub mod FaultLemmas
