-- `predict::incoming::distance_at` meets its contract: a place that is there reads the same whatever stands past the last one, and past the
-- sixteenth stands zero.
use Prim.Native.Nat.{◌≤◌}
use native.Mathlib.Omega.{arith}
use lib.ListN.{length, get_or-eq_default}
use Rattle.geo.specs.Flat.{whole}
use Rattle.geo.proofs.Literals.{literal_0}
use Rattle.predict.proofs.incoming.distance_at.Goals as goal

pub returns : goal.returns
returns c =
    let args = c.args in
    let past : length args.distances.now ≤ args.i = omega (arith, c.sixteen_distances.ensures, c.if-i-lt16.false) in
    rw (literal_0, get_or-eq_default args.distances.now (whole 0) past)
