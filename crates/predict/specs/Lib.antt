-- An elevation every 20 m of road.
pub mod Samples
-- The ways on from a junction: the tiles that share its node, the heading along an edge, the cost of a choice, the best and the second.
pub mod Twins
pub mod Outgoing
pub mod Cost
pub mod Choose
-- Moving along one edge: the start, the points ahead, the heading at the end, where points stand by the code, and the road just ridden.
pub mod Start
pub mod Vertex
pub mod Incoming
pub mod Spots
pub mod Ridden
-- At a junction: the edges and tiles met before, the ways on, and the one that is taken.
pub mod Visits
pub mod Meets
pub mod Consider
pub mod Cross
pub mod Decide
-- Following the road ahead.
pub mod Walk
-- The road ahead: the definition over a look, the public function, and what is claimed of it.
pub mod Predict
pub mod Relied
-- The number of each answer.
pub mod Numbers
