pub mod Places
pub mod Loops
pub mod Overflow
pub mod Cases
