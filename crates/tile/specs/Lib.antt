-- A tile: where its fields and records stand, the order of its nodes, when it is accepted, and the readers.
pub mod Offsets
pub mod Layout
pub mod Below
pub mod Order
pub mod Parse
pub mod Readers
