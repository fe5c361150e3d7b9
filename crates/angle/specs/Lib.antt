-- The two angle functions as definitions of their steps, and the eighths of the circle.
pub mod Bearing
pub mod Eighths
pub mod Cosine
pub mod Significand
