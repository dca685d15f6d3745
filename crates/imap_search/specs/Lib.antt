-- The messages that SEARCH finds, and its answer.
pub mod Within
pub mod Finds
pub mod Tokens
pub mod Search
pub mod KeyFacts
pub mod Results
pub mod Folded
pub mod Shown
pub mod Span
pub mod Ranges
pub mod Ready
