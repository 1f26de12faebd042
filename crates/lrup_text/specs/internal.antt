-- Definitions for contracts of private functions.
pub mod ByteNames
pub mod Rests
pub mod Reading
pub mod Kernel
pub mod CubeReading
