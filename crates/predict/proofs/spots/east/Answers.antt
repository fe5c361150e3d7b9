-- `predict::spots::east` meets its contract: a difference of two i32 fits 64 bits, so what the callees get is the definition's.
use Rattle.predict.specs.Spots.{east_of}
use Rattle.predict.proofs.Signed.{gap_is}
use Rattle.predict.proofs.spots.east.Goals as goal

pub returns : goal.returns
unfolding east_of
returns c =
    rw (rw (gap_is c.ranges.to c.ranges.from) at c.f32_of_i64-micro.ensures, c.f32_of_u32.ensures)
