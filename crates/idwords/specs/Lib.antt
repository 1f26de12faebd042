pub mod Words
pub mod Spelling
pub mod RowCalls
pub mod Seats
pub mod internal
