pub mod Watched
pub mod TeeReader
pub mod PartlyWritten
