pub mod Steps
pub mod Known
pub mod Kept
pub mod Sights
pub mod Planning
pub mod Entering
pub mod OwnRows
mod Dropping
pub mod Walking
pub mod Untouched
pub mod Events
pub use Rattle.imap_mailbox.proofs.Keeping
pub use Rattle.imap_mailbox.proofs.OneMailbox
