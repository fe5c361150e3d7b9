-- The pack: bytes, where its fields stand, header, grid and directory.
pub mod Bytes
pub mod Offsets
pub mod Sector
pub mod Grid
