-- Access control lists, rights and identifiers as contracts see them (RFC 4314).
pub mod Rights
pub mod Change
pub mod Identifier
pub mod Groups
pub mod Acl
pub mod Effective
pub mod Entries
pub mod Laws
