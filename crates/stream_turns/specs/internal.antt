-- Definitions for contracts of private functions.
pub mod Working
pub mod Turns
