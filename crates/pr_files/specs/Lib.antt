pub mod Noting
pub mod Saving
