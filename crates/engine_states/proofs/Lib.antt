-- No public call of the engine makes a state that number 12 names (EngineClosed), from any state that it doesn't, with the 96 slots that the array
-- has; without them it can (EngineShort, CacheSized). CacheKept, CacheSized: the cache's causes. SightKept, MatcherKept, RoadBounds: what a fix, a
-- match and a road leave. RoadExact: the points that a road passes. KeptParts, EngineKept: the engine's calls. EngineSized: the slots stay 96. FirstStep: what the
-- first step of a new engine asks for. PublicFetch: the open fetch, of the public calls. RefusedSame: a refused call leaves all as it was.
-- Ways: how a step, a delivery and the lent-pack form go. Claims: the claims of specs/Closed.
pub mod CacheKept
pub mod CacheSized
pub mod SightKept
pub mod MatcherKept
pub mod RoadBounds
pub mod RoadExact
pub mod KeptParts
pub mod EngineKept
pub mod EngineSized
pub mod EngineShort
pub mod EngineClosed
pub mod FirstStep
pub mod PublicFetch
pub mod RefusedSame
pub mod Ways
pub mod Claims
