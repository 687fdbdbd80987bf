pub mod Numbers
pub mod Run
pub mod Engines
pub mod Calls
