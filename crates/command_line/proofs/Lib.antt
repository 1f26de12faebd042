pub mod FaultLemmas
pub mod FoundLemmas
pub mod PlainLemmas
pub mod ProgramLemmas
pub mod ReadLemmas
pub mod SizesLemmas
