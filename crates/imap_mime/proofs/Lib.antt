mod Ascii
mod Reading
pub mod Texts
pub mod Words
