pub mod Queued
pub mod Putting
pub mod Sounding
pub mod Shifting
pub mod Multiset
pub mod Heaping
pub mod Running
