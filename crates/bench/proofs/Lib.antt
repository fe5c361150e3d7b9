-- The theorem.
pub mod Table
