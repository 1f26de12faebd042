pub mod TestLemmas
pub mod LookUpLemmas
pub mod HintLemmas
pub mod LineLemmas
pub mod DeletionLemmas
pub mod OutcomeLemmas
pub mod StreamLemmas
