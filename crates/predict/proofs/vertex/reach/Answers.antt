-- `predict::vertex::reach` meets its contract: by the answers of its callees, in the definition's order.
use mir.Facts.{to_z-of_z}
use mir.Syntax.{w32}
use Rattle.predict.proofs.Signed.{got}
use Rattle.predict.specs.Vertex.{reached}
use Rattle.predict.proofs.vertex.reach.Goals as goal

pub returns : goal.returns
unfolding reached
returns c =
    let pushes_value = rw (
      got w32 c.height_there-there.type_inv,
      c.height_there-there.ensures,
      c.part_of-part.ensures,
      to_z-of_z c.ranges.z,
    ) at c.push_on-mark.ensures.value in
    let pushes_heights_after = rw (
      got w32 c.height_there-there.type_inv,
      c.height_there-there.ensures,
      c.part_of-part.ensures,
      to_z-of_z c.ranges.z,
    ) at c.push_on-mark.ensures.heights_after in
    record {
      value = rw pushes_value;
      heights_after = pushes_heights_after;
    }
