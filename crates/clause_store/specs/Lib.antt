pub mod Passes
pub mod Desks
pub mod Laws
pub mod internal
pub mod lemmas
