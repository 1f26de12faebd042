mod CubeLemmas
mod DeviceLemmas
