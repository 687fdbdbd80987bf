pub mod Program
pub mod Runs
pub mod Promise
pub mod Worked
