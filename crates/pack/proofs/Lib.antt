-- Laws of the readers, the header's rules and the grid, for callers to cite, and the bridge from ℤ to ℕ that the proofs go by.
pub mod Signed
pub mod Rise
pub mod Laws
