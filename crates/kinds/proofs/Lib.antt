pub mod Every
pub mod Combining
pub mod Laws
