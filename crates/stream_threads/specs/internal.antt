-- Definitions for contracts of private functions.
pub mod Workers
