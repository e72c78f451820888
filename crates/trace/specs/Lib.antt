pub mod Cut
pub mod Line
pub mod Taken
