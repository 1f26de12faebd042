pub mod Commands
pub mod Arguments
pub mod Rounds
pub mod internal
pub mod lemmas
