pub mod LiteralsRead
pub mod MeetingLemmas
pub mod OpeningLemmas
pub mod RestLemmas
