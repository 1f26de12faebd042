-- Definitions for contracts of private functions.
pub mod Marks
pub mod Numbers
pub mod Rests
