-- `predict::spots::spot_of` meets its contract: each return by its tests and the answer of `spot`.
use Prim.Native.Nat.{◌+◌, ◌-◌}
use mathlib.Core.Path.{◌≡◌}
use native.Mathlib.Omega.{arith}
use Rattle.predict.specs.Spots.{spot_of}
use Rattle.predict.proofs.spots.spot_of.Goals as goal

pub returns-then-leg : goal.returns-then-leg
unfolding spot_of
returns-then-leg c = record {
  value = rw c.if-leg.true c.spot.ensures.value;
  upper_bound = c.spot.ensures.upper_bound;
}

pub returns-then-last-i : goal.returns-then-last-i
unfolding spot_of
returns-then-last-i c =
    let args = c.args in
    let none : args.leg.edge.vertices + 1 - args.i ≡ 0 = omega (arith, c.if-last-i.true) in
    record {
      value = rw (c.if-leg.false, none) c.spot-then-last-i.ensures.value;
      upper_bound = c.spot-then-last-i.ensures.upper_bound;
    }

pub returns : goal.returns
unfolding spot_of
returns c = record {
  value = rw c.if-leg.false c.spot-2.ensures.value;
  upper_bound = c.spot-2.ensures.upper_bound;
}
