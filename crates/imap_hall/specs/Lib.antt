-- The journal of a hall, and what its calls leave.
pub mod Counts
pub mod Hall
pub mod Journal
pub mod Laws
pub mod Made
pub mod Opening
pub mod Receipts
pub mod Saving
-- what those above say of the machine
pub use Rattle.imap_saving.specs.Frames
pub use Rattle.imap_saving.specs.Act
pub use Rattle.imap_saving.specs.Step
pub use Rattle.imap_saving.specs.ActType
pub use Rattle.imap_saving.specs.StepType
pub use Rattle.imap_saving.specs.SessionId
