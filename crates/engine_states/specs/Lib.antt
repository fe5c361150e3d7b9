-- First: what the first step of a new engine does. Refused: what a refused call leaves. Tasks: what a step works at. Closed: the claims.
pub mod First
pub mod Refused
pub mod Tasks
pub mod Closed
