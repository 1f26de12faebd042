pub mod Items
pub mod Judged
pub mod Jobs
pub mod Faults
pub mod internal
