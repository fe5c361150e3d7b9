-- Demand 3, proved. OneNumber: which refusal a number is.
-- Changes: what a step, a delivery and the lent-pack form leave of cache and arena, by the ways that they go (Ways of engine_states). Found: what lookups hand out. Safe: with no
-- premise. Beside: what they leave beside the cache. Fit: under the premises. Agreed: the cache's look and the pack's. Seen: a step and the direct
-- engine's. Linked: one call beside the direct engine's turn. Started: a road from a start that was found. Sound: states that 12 does not name.
-- Opened, Always: no call is refused with 12. Stories: two lists. Due: what is due, and what a step off the map clears. Settled: two lists that
-- settle before each fix. Claim: the theorems. Published: what stands published, and what a host
-- reads. Whole: what a compared road leaves out. Last: the direct engine's last match. Cores: the public cores do no
-- harm.
mod OneNumber
pub mod Changes
pub mod Found
pub mod Safe
pub mod Beside
pub mod Fit
pub mod Agreed
pub mod Seen
pub mod Linked
pub mod Started
pub mod Sound
pub mod Opened
pub mod Always
pub mod Stories
pub mod Due
pub mod Settled
pub mod Claim
pub mod Published
pub mod Whole
pub mod Last
pub mod Cores
