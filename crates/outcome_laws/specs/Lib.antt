pub mod Outcomes
pub mod Laws
pub mod Valid
pub mod Inconclusive
pub mod ValidLaws
pub mod Serial
pub mod Refuting
