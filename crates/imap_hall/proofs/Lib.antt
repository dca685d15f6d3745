pub mod Counting
pub mod Journals
pub mod Kept
pub mod Opened
pub mod Refusing
pub mod Stepped
pub mod Users
pub use Rattle.imap_saving.proofs.CoreSend
pub use Rattle.imap_saving.proofs.SessionIdSend
pub use Rattle.imap_saving.proofs.shared_replies.SharedReplies.TheSendSync as SharedRepliesSend
