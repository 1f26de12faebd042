pub mod Results
pub mod internal
