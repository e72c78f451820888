pub mod Order
pub mod Meaning
pub mod Answer
pub mod Entries
pub mod Lists
pub mod Heaps
pub mod Runs
pub mod ReleasedLemmas
