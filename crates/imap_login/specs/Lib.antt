-- What a client is answered before it has logged in.
pub mod Asked
pub mod Credentials
pub mod Differences
pub mod Laws
pub mod Login
pub mod Replies
