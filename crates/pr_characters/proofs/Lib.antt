pub mod Drawn
pub mod Elements
pub mod FirstBad
pub mod Named
pub mod OneAnswer
pub mod Signs
