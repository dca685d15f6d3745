pub mod Chars
pub mod Printable
pub mod Pushes
pub mod Read
pub mod RoundTrip
pub mod Shifting
