-- Definitions for contracts of private functions.
pub mod CheckerInside
pub mod Checking
pub mod Taking
