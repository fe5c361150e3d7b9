-- `predict::incoming::back_of` meets its contract: each arm by the answers of its callees. The point found has one after it, so its number and one
-- more fits.
use Prim.Native.Nat.{◌-◌}
use mathlib.Core.Path.{sym, ◌∙◌}
use native.Mathlib.Omega.{arith}
use Rattle.predict.specs.Incoming.{back_at, back_of}
use Rattle.predict.proofs.TrackLaws.{highest_below}
use Rattle.predict.proofs.incoming.back_of.Goals as goal

pub overflow_add-i : goal.overflow_add-i
unfolding back_at
overflow_add-i c =
    omega (arith, highest_below _ (c.args.len - 1) _ (sym c.back_at.ensures ∙ c.in-Some.is))

pub overflow_add-i-in-Some : goal.overflow_add-i-in-Some
unfolding back_at
overflow_add-i-in-Some c =
    omega (arith, highest_below _ (c.args.len - 1) _ (sym c.back_at.ensures ∙ c.in-Some.is))

pub returns-in-None : goal.returns-in-None
unfolding back_of back_at
returns-in-None c =
    rw (sym c.back_at.ensures ∙ c.in-None.is) c.point_at.ensures

pub returns-in-Some : goal.returns-in-Some
unfolding back_of back_at
returns-in-Some c =
    rw (
      sym c.back_at.ensures ∙ c.in-Some.is,
      c.between.ensures,
      c.back_part.ensures,
      c.distance_at-in-Some.ensures,
      c.distance_at.ensures,
      c.point_at-in-Some-2.ensures,
      c.point_at-in-Some.ensures,
    )
