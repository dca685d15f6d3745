-- What commands on messages act on.
pub mod Effects
pub mod Left
pub mod MessageNumbers
pub mod NewFlags
pub mod Spans
pub mod Target
pub mod UnchangedSince
-- what those above say of sessions
pub use Rattle.imap_session.specs.State
pub use Rattle.imap_session.specs.Notices
pub use Rattle.imap_session.specs.Select
pub use Rattle.imap_session.specs.declared.select.Selecting
pub use Rattle.imap_session.specs.Held
