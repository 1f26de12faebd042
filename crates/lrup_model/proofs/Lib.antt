pub mod LiteralLemmas
pub mod OpeningLemmas
pub mod NumberLemmas
pub mod PieceLemmas
pub mod PlainLemmas
pub mod PlainInsideLemmas
pub mod CubeCodes
