mod Places
mod GroupLemmas
mod AloneLemmas
mod EmptiedLemmas
mod RunLemmas
mod ValidLines
mod ValidLemmas
mod ValidCites
pub mod SwapLemmas
mod AnyRunLines
mod AnyRunStreams
mod AnyRunLemmas
mod BeginLemmas
mod TogetherLemmas
mod OneOrder
mod TurnsLemmas
mod ValidTurns
pub mod BlockLemmas
pub mod AheadLemmas
pub mod WalkLemmas
pub mod OrderLemmas
pub mod KindLemmas
pub mod JudgedLemmas
pub mod StreamLemmas
pub mod PremiseLemmas
pub mod VerdictLemmas
