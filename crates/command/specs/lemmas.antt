-- Lemmas that proofs of other crates may cite.
pub mod SavedLemmas
pub mod OneRound
pub mod TakingLemmas
