-- Laws of the follower, for its proofs and for callers to cite.
-- SameNumber: numbers that are the same have the same bits. Literals: the figure that the code writes as a literal. FollowerLaws: what a fix and
-- the loss of fixes leave as it was, and how many places the history holds.
pub mod SameNumber
pub mod Literals
pub mod FollowerLaws
-- Laws of the engine, for its proofs and for callers to cite.
-- FetchLaws: the open fetch: a step repeats it, a reset withdraws it, a fix and the loss of fixes commute with its delivery. StateLaws: a new
-- engine is no state that number 12 names. StateNeeds: an arm of two phases, and when an arena is shorter than its pages. StepNeeds: what the arms
-- of several variants know, and the limit on asked tiles.
pub mod FetchLaws
pub mod StateLaws
pub mod StateNeeds
pub mod StepNeeds
-- NeedLaws: the tile that is needed, by the cache's public cores. TestedLaws: what number 12's test tells the functions behind it.
pub mod NeedLaws
pub mod TestedLaws
-- PlanLaws: a step where no fetch is open does what its plan says.
pub mod PlanLaws
-- SummaryLaws: an engine by its summary, a step that opens a fetch of the needed tile, a chunk that leaves more to come.
pub mod SummaryLaws
