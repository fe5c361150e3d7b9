-- Looking up directly in a pack that was written: the proof.
pub mod Found
