-- `predict::vertex::advance` meets its contract: each return by its test and the answers of its callees.
use mathlib.Core.Path.{◌∙◌}
use mir.Facts.{to_z-of_z}
use mir.Syntax.{w32}
use Rattle.predict.proofs.Signed.{sf, got}
use Rattle.predict.proofs.VertexLaws.{advanced_reach, advanced_pass}
use Rattle.predict.proofs.vertex.advance.Goals as goal

pub returns-then-distance-trip : goal.returns-then-distance-trip
returns-then-distance-trip c =
    let args = c.args in
    let rider = to_z-of_z (sf w32 args.trip.z_dm c.struct_told-1.given.1.1.0.1) in
    let heights = got w32 c.less-z.type_inv ∙ (rw (got w32 c.z_dm.type_inv, c.z_dm.ensures, rider) at c.less-z.ensures) in
    let whole =
    advanced_reach args.trip args.leg args.bytes.now args.lon_um args.t args.lats.now args.lons.now
    args.distances.now args.i args.heights.now c.node_at-node.ensures c.point-point.ensures heights c.step_of-step.ensures
    _ _ c.if-distance-trip.true c.reach.ensures.value c.reach.ensures.heights_after
    in record { value = whole.0; heights_after = whole.1.0; lats_after = whole.1.1.0; lons_after = whole.1.1.1.0; distances_after = whole.1.1.1.1 }

pub returns : goal.returns
returns c =
    let args = c.args in
    let rider = to_z-of_z (sf w32 args.trip.z_dm c.struct_told-1.given.1.1.0.1) in
    let heights = got w32 c.less-z.type_inv ∙ (rw (got w32 c.z_dm.type_inv, c.z_dm.ensures, rider) at c.less-z.ensures) in
    let whole =
    advanced_pass args.trip args.leg args.bytes.now args.lon_um args.t args.lats.now args.lons.now
    args.distances.now args.i args.heights.now c.node_at-node.ensures c.point-point.ensures heights c.step_of-step.ensures
    _ _ _ _ _ c.if-distance-trip.false (c.pass.ensures.value, (c.pass.ensures.heights_after, (c.pass.ensures.lats_after, (c.pass.ensures.lons_after, c.pass.ensures.distances_after))))
    in record { value = whole.0; heights_after = whole.1.0; lats_after = whole.1.1.0; lons_after = whole.1.1.1.0; distances_after = whole.1.1.1.1 }
