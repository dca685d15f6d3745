-- What a session knows of its mailbox, and what it is told.
pub mod Compared
pub mod Lost
pub mod Notices
pub mod ByUid
pub mod Delta
pub mod Held
pub mod Cursors
pub mod InStep
pub mod Following
pub mod Walked
pub mod Laws
pub mod Listed
pub mod Select
pub mod Shared
pub mod State
pub mod Telling
pub mod Told
-- what a command on messages says of its answer
pub use Rattle.imap_listing.specs.Fit
