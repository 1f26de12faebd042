pub mod PieceLemmas
pub mod NumberLemmas
pub mod ReadingLemmas
pub mod MarkLemmas
pub mod EvaluationLemmas
pub mod CubeTextLemmas
pub mod AnswerLemmas
