pub mod Reading
pub mod Running
pub mod Printing
