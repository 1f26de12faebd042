pub mod Opened
pub mod lemmas
