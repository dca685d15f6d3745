-- The mailboxes of all users, what is asked of them, and what changes them.
pub mod Changing
pub mod Effects
pub mod Indexed
pub mod Kept
pub mod Laws
pub mod Mailbox
pub mod Messages
pub mod Moving
pub mod Ready
pub mod NewMailbox
pub mod Shared
pub mod Stored
pub mod Tree
pub mod World
pub mod Subscription
pub mod Parts
pub mod Restored
-- what those above say of mailboxes, maps of names, and rights
pub use Rattle.imap_identifier_index.specs.Index
pub use Rattle.imap_batch.specs.Batch
pub use Rattle.imap_batch.specs.Laws as BatchLaws
pub use Rattle.imap_batch.specs.Seen as BatchSeen
pub use Rattle.imap_batch.specs.Written as BatchWritten
pub use Rattle.imap_batch.specs.declared.batch.Batch as BatchType
pub use Rattle.imap_batch.specs.declared.write.BatchWrite
pub use Rattle.imap_batch.specs.Brought
pub use Rattle.imap_batch.specs.Held
pub use Rattle.imap_batch.specs.Lent
pub use Rattle.imap_batch.specs.MailboxOrder
pub use Rattle.imap_batch.specs.Rows
pub use Rattle.imap_batch.specs.Shown
pub use Rattle.imap_batch.specs.Summary
pub use Rattle.imap_name_map.specs.Renaming
pub use Rattle.imap_name_map.specs.Rows as NameMapRows
pub use Rattle.imap_rights.specs.Acl
pub use Rattle.imap_rights.specs.Change
pub use Rattle.imap_rights.specs.Effective
pub use Rattle.imap_rights.specs.Groups
pub use Rattle.imap_rights.specs.Rights
pub use Rattle.imap_rights.specs.declared.change.RightsChange
