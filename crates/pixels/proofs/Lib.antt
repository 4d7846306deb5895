pub mod Store
pub mod Over
pub mod Hit
pub mod Merge
pub mod Cases
