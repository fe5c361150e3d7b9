-- Where two segments meet, what the crossing of a transect and a tile is, and the sign tests of the code.
pub mod Segments
pub mod Crossing
pub mod Sides
