-- The laws that the proofs of `num` share, a file for each subject.
-- a fraction to the nearest whole number, bit patterns, the single float nearest to a scaled whole number, and doubles
pub mod Closest
pub mod Pattern
pub mod Nearest
pub mod Narrow
-- not-a-number, signs and finiteness by the bits; casts held to a range
pub mod OrderLaws
pub mod CastLaws
-- the whole part of a single float by its bits
pub mod WholeLaws
-- the whole root, the rounding of a float's root, and that it is to nearest, in squares
pub mod RootLaws
pub mod RootRounded
pub mod RootNearest
-- a loop by index
pub mod FoldLaws
-- a part of a float, from none of it to all of it
pub mod PartLaws
