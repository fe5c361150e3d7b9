-- CauseLaws: the law of a list of causes. LoadLaws, DeliverLaws: the causes that the state brings, of a lookup, a load and a delivery. WorkLaws: what the work
-- of a match, a road and a step is refused with. Table: the theorem.
pub mod CauseLaws
pub mod LoadLaws
pub mod DeliverLaws
pub mod WorkLaws
pub mod Table
