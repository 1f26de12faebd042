pub mod EntailsLemmas
pub mod LiveLemmas
pub mod PrintLemmas
pub mod ReadBack
pub mod SaveLemmas
pub mod FileLemmas
pub mod Beginnings
pub mod NextLemmas
