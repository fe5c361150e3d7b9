-- `predict::outgoing::outgoing_of` meets its contract: by the answers of its callees, in the definition's order.
use mathlib.Core.Path.{◌∙◌}
use mir.Facts.{to_z-of_z}
use mir.Syntax.{w32}
use Rattle.predict.specs.Outgoing.{outgoing_of}
use Rattle.predict.proofs.Signed.{sf}
use Rattle.predict.proofs.SpotLaws.{east_is, north_is}
use Rattle.predict.proofs.outgoing.outgoing_of.Goals as goal

pub returns : goal.returns
unfolding outgoing_of
returns c =
    let far = c.far_point-far.result in
    let origin = c.point_at-origin.result in
    let lon_um = c.args.lon_um in
    let easts =
    rw (
      to_z-of_z (sf w32 far.lon c.struct_told-1.given.1.0.1),
      to_z-of_z (sf w32 origin.lon c.struct_told-2-1.given.1.0.1),
    ) at c.east-east.ensures in
    let norths =
    rw (
      to_z-of_z (sf w32 far.lat c.struct_told-3-1.given.0.1),
      to_z-of_z (sf w32 origin.lat c.struct_told-4-1.given.0.1),
    ) at c.north-north.ensures in
    rw (
      c.bearing.ensures,
      easts ∙ east_is far origin lon_um,
      norths ∙ north_is far origin lon_um,
      c.far_point-far.ensures,
      c.point_at-origin.ensures,
    )
