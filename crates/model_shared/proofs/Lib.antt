pub mod Lines
pub mod Laws
pub mod Seen
pub mod Alone
pub mod Follows
pub mod Reloads
pub mod Theorems
