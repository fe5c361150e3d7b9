-- The view of a tile.
pub mod Views
