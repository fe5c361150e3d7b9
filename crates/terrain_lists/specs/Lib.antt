-- The functions of include/terrain.h on an engine's words as data, the lists of them, and what is claimed of every list; Hosts: what crate direct claims, and what a
-- refused call of a part leaves.
pub mod Calls
pub mod Claims
pub mod Hosts
