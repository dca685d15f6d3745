-- How a connection begins.
pub mod FirstLine
pub mod Laws
