pub mod Given
pub mod InputTexts
pub mod InputNumbers
pub mod Lines
pub mod Middles
mod DevicesStored
pub mod MarkRows
pub mod MarkColumns
pub mod SheetMarks
pub mod SheetPixels
pub mod SheetTexts
pub mod MarkTexts
