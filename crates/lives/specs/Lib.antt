pub mod Crowd
