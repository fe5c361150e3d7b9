-- `predict::start::place` meets its contract: by the answers of its callees, in the definition's order.
use Rattle.predict.specs.Start.{place}
use Rattle.predict.proofs.start.place.Goals as goal

pub returns : goal.returns
unfolding place
returns c =
    rw (
      c.between.ensures,
      c.point-b.ensures,
      c.point-2.ensures,
      c.point-a.ensures,
      c.point.ensures,
    )
