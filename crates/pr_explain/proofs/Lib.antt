pub mod RowLemmas
pub mod EdgeLemmas
pub mod FirstLines
pub mod StopLemmas
pub mod BackLemmas
mod InputLemmas
mod OddLemmas
mod ScriptLemmas
