-- Lemmas that proofs of other crates may cite.
pub mod ReportLemmas
pub mod PublishLemmas
pub mod OwnLemmas
