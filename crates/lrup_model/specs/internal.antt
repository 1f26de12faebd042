-- Definitions for contracts of private functions.
pub mod Codes
pub mod Pieces
pub mod PlainInside
