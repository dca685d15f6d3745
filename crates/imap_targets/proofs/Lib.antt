pub mod Listed
pub mod Named
pub mod Permitted
pub mod Possible
pub mod Spanned
pub use Rattle.imap_session.proofs.OneLines
pub use Rattle.imap_session.proofs.RowsRise
