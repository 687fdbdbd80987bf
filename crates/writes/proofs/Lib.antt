pub mod Goes
pub mod Sinks
