mod ReadingLemmas
mod FileLemmas
mod OpeningLemmas
mod WordLemmas
mod StreamLemmas
mod SizingLemmas
mod ClosingLemmas
mod FaultLemmas
