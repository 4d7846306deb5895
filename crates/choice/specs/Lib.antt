pub mod Distance
pub mod Overflow
