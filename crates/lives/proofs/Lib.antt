pub mod Accepted
pub mod Taken
pub mod Living
