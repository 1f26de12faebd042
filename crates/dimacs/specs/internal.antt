-- Definitions for contracts of private functions.
pub mod Places
pub mod Marks
