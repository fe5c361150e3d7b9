-- The candidates of a tile: the scan of an edge's points, its cost, the eight that are kept, the tile's edges, and what a match relies on.
pub mod Scan
pub mod Standing
pub mod Score
pub mod Keeping
pub mod Placing
pub mod Tile
pub mod Within
-- The matcher: the tiles around a fix, which candidate is chosen, the match made of it, number 12, a match over a lookup, and the public functions.
pub mod Near
pub mod Choose
pub mod Settle
pub mod State
pub mod Gather
pub mod Calls
pub mod Relied
-- The number of each answer.
pub mod Numbers
