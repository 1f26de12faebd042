pub mod Printing
pub mod Answers
pub mod Requests
