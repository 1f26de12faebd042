-- Lemmas, which other crates' proofs may cite.
pub mod ReadLemmas
pub mod WritingLemmas
