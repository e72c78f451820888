pub mod Answer
pub mod State
pub mod Step
pub mod Run
pub mod Promise
pub mod Worked
