pub mod Answering
pub mod Fitting
pub mod Marked
pub mod Named
pub mod Skipping
pub mod Possible
pub mod ReadPossible
pub mod SameSections
pub mod UpToDate
pub use Rattle.imap_resync.proofs.Fitting as SelectFitting
pub mod Told
