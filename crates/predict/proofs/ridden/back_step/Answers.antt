-- `predict::ridden::back_step` meets its contract: each return by its test and the answers of its callees.
use mir.Facts.{to_z-of_z}
use mir.Syntax.{w32}
use Rattle.predict.proofs.Signed.{sf, got}
use Rattle.predict.specs.Ridden.{back_step}
use Rattle.predict.proofs.ridden.back_step.Goals as goal

pub returns-then-distance-reach : goal.returns-then-distance-reach
unfolding back_step
returns-then-distance-reach c =
    let trip = c.args.trip in
    let rider = to_z-of_z (sf w32 trip.z_dm c.struct_told-1.given.1.1.0.1) in
    let far = rw (c.step_of-step.ensures, c.point-point.ensures, c.node_at-node.ensures) at c.if-distance-reach.true in
    let pushes_value = rw (
      got w32 c.height_back-there.type_inv,
      c.height_back-there.ensures,
      got w32 c.less-z.type_inv,
      c.less-z.ensures,
      got w32 c.z_dm.type_inv,
      c.z_dm.ensures,
      rider,
      c.step_of-step.ensures,
      c.point-point.ensures,
      c.node_at-node.ensures,
    ) at c.push_on-mark.ensures.value in
    let pushes_heights_after = rw (
      got w32 c.height_back-there.type_inv,
      c.height_back-there.ensures,
      got w32 c.less-z.type_inv,
      c.less-z.ensures,
      got w32 c.z_dm.type_inv,
      c.z_dm.ensures,
      rider,
      c.step_of-step.ensures,
      c.point-point.ensures,
      c.node_at-node.ensures,
    ) at c.push_on-mark.ensures.heights_after in
    record {
      value = rw (far, pushes_value);
      heights_after = rw far pushes_heights_after;
    }

pub returns : goal.returns
unfolding back_step
returns c =
    let trip = c.args.trip in
    let rider = to_z-of_z (sf w32 trip.z_dm c.struct_told-1.given.1.1.0.1) in
    let short = rw (c.step_of-step.ensures, c.point-point.ensures, c.node_at-node.ensures) at c.if-distance-reach.false in
    let pushes_value = rw (
      got w32 c.less-z.type_inv,
      c.less-z.ensures,
      got w32 c.z_dm.type_inv,
      c.z_dm.ensures,
      rider,
      c.step_of-step.ensures,
      c.point-point.ensures,
      c.node_at-node.ensures,
    ) at c.push_on-mark-2.ensures.value in
    let pushes_heights_after = rw (
      got w32 c.less-z.type_inv,
      c.less-z.ensures,
      got w32 c.z_dm.type_inv,
      c.z_dm.ensures,
      rider,
      c.step_of-step.ensures,
      c.point-point.ensures,
      c.node_at-node.ensures,
    ) at c.push_on-mark-2.ensures.heights_after in
    record {
      value = rw (short, pushes_value, c.step_of-step.ensures, c.point-point.ensures, c.node_at-node.ensures);
      heights_after = rw short pushes_heights_after;
    }
