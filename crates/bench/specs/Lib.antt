-- The table of bench lines.
pub mod Lines
