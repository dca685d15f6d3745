-- Values that rows keep.
pub mod Restored
