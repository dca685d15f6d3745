-- What is asked of messages: items of FETCH and STATUS, sections of a message, keys of SEARCH.
pub mod FetchWords
pub mod StatusWords
pub mod Status
pub mod Sections
pub mod Fetch
pub mod SearchWords
pub mod Keys
pub mod Search
pub mod Searching
pub mod WrittenFetch
pub mod WrittenSearch
