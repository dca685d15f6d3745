mod Saved
mod Meta
mod Changed
mod Version
mod Loaded
mod Fresh
mod FirstTaken
