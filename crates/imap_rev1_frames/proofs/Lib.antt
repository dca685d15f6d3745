pub mod Pushes
pub mod SameNames
pub mod Sections
pub mod Steps
