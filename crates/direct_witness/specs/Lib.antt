-- The list of calls, and what is shown of it.
pub mod Witness
