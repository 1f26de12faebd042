-- Definitions for contracts of private functions.
pub mod Matches
pub mod Numbers
