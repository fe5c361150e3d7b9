-- Page runs: what a page is and when runs are well-formed, evicting and placing, the victim, and the beginning of a load.
pub mod Runs
pub mod Pass
pub mod Evict
pub mod Victim
pub mod Begin
-- The cache: searches, keys and the ring, lookups, the states that number 12 names, the public functions, and the direct lookup.
pub mod Search
pub mod Keys
pub mod Lookups
pub mod State
pub mod Calls
pub mod Direct
-- Bringing tiles in: one step of a load, what its last chunk leaves, and the public functions.
pub mod Loads
pub mod Endings
-- The lookups of one call that makes many, and a lookup as a definition reads it.
pub mod Ages
pub mod Reader
-- When what those lookups go by stands for the cache.
pub mod Stands
-- What the lookups of one match change, beside the cache.
pub mod Uses
-- The number of a step of a load.
pub mod Numbers
