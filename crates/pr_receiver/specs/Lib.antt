pub mod Heard
pub mod Given
pub mod Kept
pub mod Steps
pub mod Taken
pub mod Laws
pub mod AtOnce
