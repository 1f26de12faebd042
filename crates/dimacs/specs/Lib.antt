pub mod Lines
pub mod Numerals
pub mod FormulaText
pub mod FormulaTokens
pub mod FormulaFault
pub mod internal
