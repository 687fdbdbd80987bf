pub mod Mapped
pub mod Onward
pub mod Lending
pub mod Piling
pub mod Formed
