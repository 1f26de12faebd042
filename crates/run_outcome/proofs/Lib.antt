pub mod ReportLines
pub mod SavingLemmas
