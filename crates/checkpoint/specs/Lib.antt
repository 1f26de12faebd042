pub mod Live
pub mod Printing
pub mod Entails
pub mod Checkpoints
