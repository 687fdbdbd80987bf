pub mod Cuts
pub mod Decimals
pub mod Spaces
pub mod Stops
