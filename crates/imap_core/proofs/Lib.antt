pub mod Admitted
pub mod Composed
pub mod Fitting
pub mod HiddenTrees
pub mod Histories
pub mod InStep
pub mod MadeByEvents
pub mod MessagesKnown
pub mod Noticed
pub mod NumbersStay
pub mod Preparing
pub mod Quiet
pub mod Runs
pub mod SameAnswers
pub mod SameOutcomes
pub mod Sameness
pub mod SelectedAgain
pub mod Silent
pub mod Starting
pub mod StartsAlike
pub mod StepLaws
pub mod Quotas
pub mod Steps
pub mod StepsAlike
pub use Rattle.imap_sessions.proofs.InStep as SessionsInStep
pub use Rattle.imap_sessions.proofs.session_id.SessionId.TheSendSync as SessionIdSend
