-- The cache's theorem over every list of calls.
-- Lookups: what a lookup tells. Stores: lists after a store. Steps: the ways that `get` and `load` go. Live: each run is ready or the
-- load's. Inv: the state's own invariant. Chunk: a chunk written. Settled: a tile ready or known missing. Safe: with no premise. Direct: the
-- direct lookup. Kept: the invariant under the premises of one pack. Same: under them. Claim: the theorem.
pub mod Lookups
pub mod Stores
pub mod Steps
pub mod Live
pub mod Inv
pub mod Chunk
pub mod Settled
pub mod Safe
pub mod Direct
pub mod Kept
pub mod Same
pub mod Claim
