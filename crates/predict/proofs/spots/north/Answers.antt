-- `predict::spots::north` meets its contract: a difference of two i32 fits 64 bits, so what the callee gets is the definition's.
use Rattle.predict.specs.Spots.{north_of}
use Rattle.predict.proofs.Signed.{gap_is}
use Rattle.predict.proofs.spots.north.Goals as goal

pub returns : goal.returns
unfolding north_of
returns c =
    rw (rw (gap_is c.ranges.to c.ranges.from) at c.f32_of_i64-micro.ensures)
