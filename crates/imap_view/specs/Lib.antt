-- What a user may see of the mailboxes, before and after each effect.
pub mod After
pub mod Listing
pub mod MessagesAfter
pub mod Readable
pub mod RenameAfter
pub mod Seen
pub mod Starts
pub mod TreeAfter
pub mod View
-- what those above say of worlds
pub use Rattle.imap_world.specs.Effects
pub use Rattle.imap_world.specs.Kept
pub use Rattle.imap_world.specs.World
pub use Rattle.imap_world.specs.contracts.effect.Effect as EffectType
pub use Rattle.imap_world.specs.declared.effect.Effect
pub use Rattle.imap_world.specs.declared.site.Site
pub use Rattle.imap_world.specs.Summary
pub use Rattle.imap_world.specs.Rights
pub use Rattle.imap_world.specs.NameMapRows
pub use Rattle.imap_world.specs.Mailbox
pub use Rattle.imap_world.specs.declared.named_batch.NamedBatch
