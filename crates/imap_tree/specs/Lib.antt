-- Commands on the tree of mailboxes and on access control lists: their answers.
pub mod Create
pub mod Delete
pub mod GetAcl
pub mod ListRights
pub mod MyRights
pub mod NewName
pub mod Rename
pub mod Selected
pub mod SetAcl
