-- Lemmas, which other crates' proofs may cite.
pub mod NextLemmas
