-- Lemmas that proofs of other crates may cite.
pub mod ResultLemmas
pub mod EmptyLemmas
pub mod CubeLemmas
pub mod RunLemmas
