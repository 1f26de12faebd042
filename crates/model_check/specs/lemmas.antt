-- Lemmas that proofs of other crates may cite.
pub mod CubeLemmas
