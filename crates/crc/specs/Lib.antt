-- The definition of the check sequence, and what the loop over octets keeps.
pub mod Fcs
pub mod Register
