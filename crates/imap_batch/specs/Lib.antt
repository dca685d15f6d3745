-- Definitions of what is asked of the messages of one mailbox, what is written, and what is seen of it.
pub mod Batch
pub mod Written
pub mod Entered
pub mod Seen
pub mod Laws
pub mod Planned
pub mod Untouched
pub mod Events
-- what those above say of mailboxes
pub use Rattle.imap_mailbox.specs.Held
pub use Rattle.imap_mailbox.specs.Own
pub use Rattle.imap_mailbox.specs.Parts
pub use Rattle.imap_mailbox.specs.Summary
pub use Rattle.imap_mailbox.specs.contracts.message.GoneMessage as GoneMessageType
pub use Rattle.imap_mailbox.specs.contracts.message.Message as MessageType
pub use Rattle.imap_mailbox.specs.declared.message.GoneMessage
pub use Rattle.imap_mailbox.specs.declared.message.Message
pub use Rattle.imap_mailbox.specs.declared.parts.PartsError
pub use Rattle.imap_mailbox.specs.Brought
pub use Rattle.imap_mailbox.specs.Lent
pub use Rattle.imap_mailbox.specs.Order as MailboxOrder
pub use Rattle.imap_mailbox.specs.Rows
pub use Rattle.imap_mailbox.specs.Shown
