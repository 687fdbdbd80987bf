pub mod Spaced
pub mod Lines
