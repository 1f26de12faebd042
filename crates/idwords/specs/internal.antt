-- Definitions for contracts of private functions.
pub mod RowWords
pub mod Opening
pub mod Rule
pub mod Steps
pub mod Seating
