pub mod MarkLemmas
pub mod StatusLemmas
pub mod TakenLemmas
