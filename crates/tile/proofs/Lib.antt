-- Laws about a tile's definitions.
pub mod Laws
pub mod Clauses
mod Slices
pub mod Ordered
pub mod Search
pub mod Within
