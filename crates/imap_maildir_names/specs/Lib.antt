-- What the folders and files of a Maildir are called.
pub mod Folders
pub mod Laws
pub mod Levels
pub mod Unmarking
