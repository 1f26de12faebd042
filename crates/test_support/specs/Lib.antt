pub mod Worked
pub mod lemmas
