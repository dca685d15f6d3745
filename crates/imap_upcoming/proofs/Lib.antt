pub mod Counted
pub mod Ordered
pub mod Reading
pub mod Staying
pub mod Turned
pub mod Running
