mod Zipped
mod Matching
pub mod Forms
mod Unique
pub mod Listed
mod TableRows
mod Owners
mod Children
mod UserChanges
mod Marks
mod Standing
mod Held
mod Orderly
mod Own
mod Known
mod Restored
mod Made
mod Keyed
mod Rowids
pub mod Shown
mod Same
mod Told
mod Parted
mod Flat
mod Again
mod Whole
mod Refused
pub mod SplitRows
pub mod Split
pub mod First
pub mod TakenOver
mod Grouped
mod InOrder
mod Backwards
mod Taken
