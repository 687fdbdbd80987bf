pub mod Lender
pub mod Pile
pub mod Writes
