-- What mailbox names, user names and patterns of LIST are, and which texts mean them.
pub mod Name
pub mod Order
pub mod Text
pub mod UserName
pub mod Valid
pub mod Answer
pub mod Reading
pub mod Showing
pub mod Tree
pub mod Letters
pub mod Pattern
pub mod MatchTest
pub mod Namespace
pub mod Walk
pub mod Condensed
pub mod Places
