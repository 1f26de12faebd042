-- Lemmas that proofs of other crates may cite.
pub mod ListLemmas
pub mod ClauseLemmas
pub mod DistinctLemmas
pub mod RunningLemmas
pub mod HistoryLemmas
pub mod EntailmentLemmas
pub mod CubeLemmas
pub mod OwnerLemmas
pub mod EntryLemmas
pub mod RestrictionLemmas
pub mod CallerLemmas
pub mod PassLemmas
pub mod CodeLemmas
pub mod PlainMoveLemmas
pub mod DeskLemmas
