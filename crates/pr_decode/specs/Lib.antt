pub mod ClockPhases
pub mod Readings
pub mod Outlines
pub mod PieceReadings
pub mod Frames
pub mod Steps
pub mod Taking
pub mod Laws
