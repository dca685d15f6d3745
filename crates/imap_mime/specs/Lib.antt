-- What is told of a message's structure.
pub mod Addresses
pub mod Envelope
pub mod Laws
pub mod Lexical
pub mod Parts
pub mod Strings
pub mod Values
