pub mod CommandLine
pub mod Laws
pub mod Sizes
pub mod internal
pub mod lemmas
