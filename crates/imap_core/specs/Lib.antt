-- The machine: its state, one step, traces, and isolation over all runs.
pub mod Answers
pub mod Commands
pub mod Frames
pub mod Histories
pub mod InStep
pub mod Laws
pub mod Machine
pub mod MadeByEvents
pub mod Opening
pub mod Outcome
pub mod OwnSteps
pub mod Pending
pub mod Planned
pub mod Reply
pub mod Same
pub mod SameKnowledge
pub mod Starting
pub mod Trace
pub mod Version
-- what those above say of sessions
pub use Rattle.imap_sessions.specs.Accounts
pub use Rattle.imap_sessions.specs.declared.session_id.SessionId
