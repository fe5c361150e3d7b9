-- Laws of the samples, for their proofs.
-- SampleLiterals: the figures that the code writes as literals. Signed: a difference of two i32 fits 64 bits. SampleTurns: the turns of `sloped` and
-- `level`, that `pushed` writes what they do, and that the cast holds a height to 16 bits by itself.
pub mod SampleLiterals
pub mod Signed
pub mod SampleTurns
-- Laws of the ways on from a junction, for their proofs.
-- CostLiterals: the figures that the code writes as literals. WayLaws: a place of a list that is there, and a pair of tests that fails.
pub mod CostLiterals
pub mod WayLaws
-- Laws of the track, for its proofs and for callers to cite.
-- TrackLaws: the highest number that has a property, looked for downward. Shift: a list whose places take the next one's. Turns: a loop whose step does nothing any more. SpotLaws: where the points of a leg stand. VertexLaws, BackLaws: the points of a leg one after the other, ahead and
-- back.
pub mod TrackLaws
pub mod Shift
pub mod Turns
pub mod SpotLaws
pub mod VertexLaws
pub mod BackLaws
-- Laws of a junction, for callers to cite. CrossLaws: its lookups by two readers, and by two looks that agree. ForkLaws: equal lowest costs.
pub mod CrossLaws
pub mod ForkLaws
-- Laws of a walk, for its proofs and for callers to cite. Arms: what an arm of several variants knows. FollowLaws: the turns of `follow`.
-- Looks: the lookups by the numbers. WalkLaws: its edges one by one, by two readers, and by two looks that agree. VisitLaws: the edges followed
-- last, by the places taken as by all.
pub mod Arms
pub mod FollowLaws
pub mod Looks
pub mod WalkLaws
pub mod VisitLaws
-- Laws of the road ahead, for its proofs and for callers to cite. RoadLaws: by two readers, and by two looks that agree.
-- InCache: what the code answers. Literals: the figure that the code writes. Exact: what is held to 32 bits is never reached.
pub mod RoadLaws
pub mod InCache
pub mod Literals
pub mod Exact
