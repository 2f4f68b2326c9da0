pub mod Codes
pub mod Dots
pub mod Laws
pub mod Scales
pub mod Shapes
pub mod Sheets
