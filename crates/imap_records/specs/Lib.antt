-- The rows in which the mailboxes are kept.
pub mod Bounds
pub mod Columns
pub mod Laws
pub mod Standing
pub mod Steps
pub mod Values
