pub mod WorkedLemmas
pub mod BesideLemmas
