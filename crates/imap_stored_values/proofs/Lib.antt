mod Full
pub mod Words
pub mod Kept
mod Zipped
