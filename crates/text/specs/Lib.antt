pub mod Unread
pub mod Lines
pub mod Form
