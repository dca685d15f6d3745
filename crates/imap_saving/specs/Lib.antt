-- What a step leaves that is saved and committed.
pub mod Performing
pub mod Refusals
-- what those above say of the machine
pub use Rattle.imap_core.specs.Accounts
pub use Rattle.imap_core.specs.Frames
pub use Rattle.imap_core.specs.Machine
pub use Rattle.imap_core.specs.Opening
pub use Rattle.imap_core.specs.Planned
pub use Rattle.imap_core.specs.SessionId
pub use Rattle.imap_core.specs.Trace
pub use Rattle.imap_core.specs.Version
pub use Rattle.imap_core.specs.contracts.step.Act as ActType
pub use Rattle.imap_core.specs.contracts.step.Step as StepType
pub use Rattle.imap_core.specs.declared.step.Act
pub use Rattle.imap_core.specs.declared.step.Step
