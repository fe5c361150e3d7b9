-- What follows one rider: fixes and heading, the road that is published, the state.
pub mod Fixes
pub mod Publish
pub mod Setters
pub mod Follow
-- The engine: the states that number 12 names, the steps, the work of a step, the deliveries, and the public functions.
pub mod State
pub mod Work
pub mod Deliver
pub mod Steps
pub mod Calls
-- What a step is to do, and what it makes of an answer.
pub mod Plans
-- What number 12 asks beside the cache's own state, and what the plan is made of.
pub mod Summaries
