pub mod Hearing
pub mod Ended
pub mod Taken
pub mod WholeTrace
