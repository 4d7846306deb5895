pub mod Cases
pub mod Start
