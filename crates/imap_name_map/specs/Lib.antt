-- Maps from mailbox names as contracts see them, and what a rename makes of one.
pub mod Cuts
pub mod Rows
pub mod Kept
pub mod Renaming
pub mod Numbers
