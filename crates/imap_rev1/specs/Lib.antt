-- The dialect of IMAP4rev1.
pub mod FetchLaws
pub mod Labels
pub mod Laws
pub mod NameLaws
pub mod Parts
pub mod Rev1
pub mod Shown
pub mod Utf7
