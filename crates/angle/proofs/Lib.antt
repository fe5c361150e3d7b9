-- Laws of magnitudes and of angles, for the proofs here and for callers.
-- a single float's magnitude by its pattern, the ratio of two, the arc tangent of a ratio, the angle within a quarter
pub mod Magnitude
pub mod Ratio
pub mod Arc
pub mod Quarter
-- single floats as whole numbers ahead of and behind zero, and the theorem: a bearing lies in every closed eighth that holds its vector
pub mod Parts
pub mod Eighths
