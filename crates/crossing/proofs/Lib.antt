-- The geometry of two segments, and that the sign tests of the code tell where they meet.
pub mod Reach
pub mod Plane
pub mod Meeting
pub mod Answer
