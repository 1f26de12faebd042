pub mod ModelText
pub mod Reading
pub mod Answers
pub mod FaultSources
pub mod Laws
pub mod internal
pub mod lemmas
