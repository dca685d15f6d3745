-- The stream of octets from a client: characters, marks of literals, commands and their tags.
pub mod Chars
pub mod CommandTag
pub mod Limits
pub mod ErrorText
pub mod Mark
pub mod Held
pub mod Framing
pub mod LineEnd
pub mod Places
pub mod Found
pub mod Stream
