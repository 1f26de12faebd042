-- Definitions for contracts of private functions.
pub mod Running
pub mod RoundProgress
pub mod Watching
