pub mod Stored
pub mod DecodersStored
pub mod Decoded
pub mod Receivers
pub mod Printers
pub mod Inked
