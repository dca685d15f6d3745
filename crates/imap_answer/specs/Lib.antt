-- Answers to commands: the context of a command, its answer, and what holds of each.
pub mod Access
pub mod Alike
pub mod Answer
pub mod CommandContext
pub mod Fit
pub mod Moment
pub mod Name
-- what those above say of what a user sees
pub use Rattle.imap_view.specs.Readable
pub use Rattle.imap_view.specs.View
pub use Rattle.imap_view.specs.declared.readable.Readable as ReadableMailbox
pub use Rattle.imap_view.specs.Seen
pub use Rattle.imap_view.specs.Starts
pub use Rattle.imap_view.specs.NameMapRows
-- and of responses
pub use Rattle.imap_print.specs.Lines
pub use Rattle.imap_print.specs.declared.list.Children
pub use Rattle.imap_print.specs.declared.response.Response
