-- Packs written: fields in bytes, a tile, a pack.
pub mod Fields
pub mod TileWritten
pub mod Steps
pub mod PackWritten
pub mod PackSteps
