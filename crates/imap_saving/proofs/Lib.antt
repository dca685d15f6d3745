pub mod Written
pub use Rattle.imap_core.proofs.SessionIdSend
pub use Rattle.imap_core.proofs.Starting
pub use Rattle.imap_core.proofs.machine.Core.TheSendSync as CoreSend
