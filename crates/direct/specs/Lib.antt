-- Demand 3: the public calls as data; what a call finishes; the direct engine; what is claimed of every list of calls; the corollary of two lists, and
-- for hosts that settle before each fix; the direct engine's last match; what a host reads of the road between the calls; the public cores.
pub mod Lists
pub mod Finished
pub mod Direct
pub mod Claims
pub mod Story
pub mod Settled
pub mod Published
pub mod Last
pub mod Cores
