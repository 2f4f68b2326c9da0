pub mod Drawn
pub mod Fonts
pub mod Laws
pub mod Linked
pub mod Parts
pub mod Pdf
pub mod Sheets
pub mod Words
