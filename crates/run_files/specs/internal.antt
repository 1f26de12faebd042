-- Definitions for contracts of private functions.
pub mod Reading
pub mod Watching
