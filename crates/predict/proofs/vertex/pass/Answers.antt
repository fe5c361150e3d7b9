-- `predict::vertex::pass` meets its contract: by the answers of its callees, with the point's numbers read as they are.
use mir.Facts.{to_z-of_z}
use mir.Syntax.{w32}
use Rattle.predict.specs.Incoming.{push}
use Rattle.predict.specs.Vertex.{passed}
use Rattle.predict.proofs.Signed.{got}
use Rattle.predict.proofs.vertex.pass.Goals as goal

pub returns : goal.returns
unfolding passed push
returns c =
    let pushes_value = rw (to_z-of_z c.ranges.z) at c.push_due-mark.ensures.value in
    let pushes_heights_after = rw (to_z-of_z c.ranges.z) at c.push_due-mark.ensures.heights_after in
    let lats = rw (got w32 c.struct_told-1.given.0.1) at c.keep.ensures in
    let lons = rw (got w32 c.struct_told-2-1.given.1.0.1) at c.keep-2.ensures in
    record {
      value = rw (pushes_value, c.more-len.ensures);
      heights_after = pushes_heights_after;
      lats_after = lats;
      lons_after = lons;
      distances_after = c.keep_distance.ensures;
    }
