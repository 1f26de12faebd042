pub mod Marks
pub mod Hints
pub mod Laws
pub mod internal
pub mod lemmas
