pub mod Alike
pub mod Fits
pub mod Printable
