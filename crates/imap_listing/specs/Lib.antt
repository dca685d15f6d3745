-- What is listed, and what holds of it.
pub mod IsListing
pub mod Laws
pub mod Lines
pub mod ListLine
pub mod Listing
pub mod MailboxLine
pub mod Matching
pub mod Texts
pub mod ViewNames
-- what those above say of answers
pub use Rattle.imap_answer.specs.Access
pub use Rattle.imap_answer.specs.Answer
pub use Rattle.imap_answer.specs.Fit
pub use Rattle.imap_answer.specs.Name
pub use Rattle.imap_answer.specs.Readable
pub use Rattle.imap_answer.specs.ReadableMailbox
pub use Rattle.imap_answer.specs.View
