-- Points as whole numbers, and flat geometry in single floats.
pub mod Points
pub mod Flat
