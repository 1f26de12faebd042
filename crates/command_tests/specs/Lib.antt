pub mod ExactFiles
pub mod Outcomes
