-- Calls on the cache as data and what a list of them does; what is claimed of every list.
pub mod Lists
pub mod Claims
