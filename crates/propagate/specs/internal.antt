-- Definitions for contracts of private functions.
pub mod Trail
pub mod ClauseStatus
