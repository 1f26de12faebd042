pub mod ExactLemmas
mod Views
mod FirstLemmas
mod LineLemmas
mod SavedLemmas
mod AskLemmas
mod AgreeLemmas
mod ChainLemmas
