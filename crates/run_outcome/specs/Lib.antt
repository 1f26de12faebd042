pub mod Outcomes
pub mod ReportText
pub mod Saving
pub mod Histories
pub mod RingStops
pub mod internal
pub mod lemmas
