-- Laws of points, turns and projections, for callers to cite, and the figures that the code writes as literals.
pub mod Literals
pub mod Laws
pub mod Settled
pub mod FractionLaws
pub mod PartWay
