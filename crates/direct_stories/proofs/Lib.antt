-- Two computed lists with one story.
pub mod Lists
