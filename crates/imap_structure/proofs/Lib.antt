pub mod Counted
pub mod Depth
pub mod PartLaws
mod Reading
mod Split
pub mod Texts
