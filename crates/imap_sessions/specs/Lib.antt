-- The open sessions of all users, what a step asks of one, and the notices of one.
pub mod Accounts
pub mod Alike
pub mod Held
pub mod InStep
pub mod Notices
pub mod Planned
pub mod Sessions
-- what a machine says of the mailboxes that a change leaves
pub use Rattle.imap_upcoming.specs.Readable
