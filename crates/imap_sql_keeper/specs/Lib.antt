-- The mailboxes in a database.
pub mod Keeping
pub mod Adopting
