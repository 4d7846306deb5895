pub mod Winner
pub mod Row
pub mod Merge
pub mod Cases
