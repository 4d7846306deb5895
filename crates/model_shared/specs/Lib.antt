pub mod Shared
pub mod Sequence
pub mod Theorems
