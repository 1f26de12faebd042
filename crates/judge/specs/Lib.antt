pub mod Judge
pub mod Laws
pub mod Rows
