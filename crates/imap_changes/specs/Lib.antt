-- Commands that change messages: their answers.
pub mod CopiedUids
pub mod Copies
pub mod CopyLaws
pub mod Expunge
pub mod Finding
pub mod Laws
pub mod Store
pub mod Storing
pub mod Transfer
