pub mod Accesses
pub mod Ends
pub mod Whole
pub mod Headers
