-- What is told of the parts of a message.
pub mod Laws
pub mod Media
pub mod MediaReader
pub mod Numbered
pub mod Parts
pub mod Single
pub mod Structure
