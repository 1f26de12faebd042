pub mod JoiningLemmas
pub mod RoundLemmas
pub mod TurnsLemmas
pub mod WorkingLemmas
