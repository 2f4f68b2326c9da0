pub mod Files
pub mod Stops
pub mod Table
pub mod Commands
pub mod Seen
pub mod Calls
pub mod Sending
pub mod Laws
