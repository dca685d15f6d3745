-- What a keeper of the mailboxes promises.
pub mod Keeping
pub mod Laws
