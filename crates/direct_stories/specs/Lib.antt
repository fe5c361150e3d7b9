-- Two lists of calls with one story, and what is shown of them.
pub mod Stories
