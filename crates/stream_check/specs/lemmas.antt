-- Lemmas that proofs of other crates may cite.
pub mod ListLemmas
pub mod CubeLemmas
pub mod AdditionLemmas
pub mod EventLemmas
pub mod MappingLemmas
pub mod ReportLemmas
pub mod ContextLemmas
pub mod StoppingLemmas
pub mod ReducingLemmas
pub mod EachLemmas
pub mod StreamLemmas
pub mod DroppingLemmas
pub mod TurnLemmas
