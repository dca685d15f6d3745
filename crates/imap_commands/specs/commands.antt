-- Commands, each with its reading and its writing.
pub mod Argument
pub mod Append
pub mod Enable
pub mod List
pub mod Login
pub mod Store
pub mod Messages
pub mod Mailboxes
pub mod Select
