-- Numbers stay within their types; so a list of calls through C is a list of demand 3.
-- Either, Everywhere: tests, and what holds of every element. Numbers: what operations and readers give. CacheTyped, MatchTyped, RoadTyped, FollowerTyped, EngineTyped: what the definitions of
-- cache, matcher, predict and engine leave. Kept: every call of demand 3, and every list. ReadTyped: what is read from words. Agreed: one call through C. Lists: the theorem, and demand 3 of such lists. PartsKeep: refused calls of
-- the parts. Hosted: the claims of specs/Hosts.
pub mod Either
pub mod Everywhere
pub mod Numbers
pub mod CacheTyped
pub mod MatchTyped
pub mod RoadTyped
pub mod FollowerTyped
pub mod EngineTyped
pub mod Kept
pub mod ReadTyped
pub mod Agreed
pub mod Lists
pub mod PartsKeep
pub mod Hosted
