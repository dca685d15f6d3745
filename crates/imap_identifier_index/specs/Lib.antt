-- What finds mailboxes by the identifiers in their access control lists.
pub mod Index
pub mod Names
pub mod Sets
