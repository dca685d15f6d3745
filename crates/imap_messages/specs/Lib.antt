-- Commands on messages: their answers.
pub mod Append
pub mod BodySections
pub mod Changed
pub mod Fetch
pub mod Fetched
pub mod Found
pub mod Reading
-- what a machine says of SELECT
pub use Rattle.imap_resync.specs.Select
pub mod Told
