-- Lemmas that proofs of other crates may cite.
pub mod ResultLemmas
pub mod ListLemmas
pub mod OpeningLemmas
pub mod CauseLemmas
