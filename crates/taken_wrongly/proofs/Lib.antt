-- The cases proved.
pub mod Proved
