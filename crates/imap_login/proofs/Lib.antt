pub mod Appended
pub mod Cutting
pub mod Decoded
pub mod Differ
pub mod Entering
pub mod Failing
pub mod Greeted
