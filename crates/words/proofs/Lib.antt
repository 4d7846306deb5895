pub mod Pack
pub mod Spreads
pub mod Colours
