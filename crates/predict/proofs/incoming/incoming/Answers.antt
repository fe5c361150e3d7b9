-- `predict::incoming::incoming` meets its contract: each return by the answers of its callees and the test of the length.
use mathlib.Core.Path.{◌∙◌}
use mir.Facts.{to_z-of_z}
use mir.Syntax.{w32}
use Rattle.geo.proofs.Literals.{literal_0}
use Rattle.predict.specs.Incoming.{incoming}
use Rattle.predict.proofs.Signed.{sf}
use Rattle.predict.proofs.SpotLaws.{east_is, north_is}
use Rattle.predict.proofs.incoming.incoming.Goals as goal

pub returns-then-length : goal.returns-then-length
unfolding incoming
returns-then-length c =
    let args = c.args in
    let back = c.back_of-back.result in
    let easts =
    rw (
      to_z-of_z (sf w32 args.here.lon c.struct_told-1.given.1.0.1),
      to_z-of_z (sf w32 back.lon c.struct_told-2-1.given.1.0.1),
    ) at c.east-east.ensures in
    let norths =
    rw (
      to_z-of_z (sf w32 args.here.lat c.struct_told-3-1.given.0.1),
      to_z-of_z (sf w32 back.lat c.struct_told-4-1.given.0.1),
    ) at c.north-north.ensures in
    rw (
      c.bearing.ensures,
      ← c.back_of-back.ensures,
      ← easts ∙ east_is args.here back args.lon_um,
      ← norths ∙ north_is args.here back args.lon_um,
      ← c.length.ensures,
      ← literal_0,
      c.if-length.true,
    )

pub returns : goal.returns
unfolding incoming
returns c =
    let args = c.args in
    let back = c.back_of-back.result in
    let easts =
    rw (
      to_z-of_z (sf w32 args.here.lon c.struct_told-1.given.1.0.1),
      to_z-of_z (sf w32 back.lon c.struct_told-2-1.given.1.0.1),
    ) at c.east-east.ensures in
    let norths =
    rw (
      to_z-of_z (sf w32 args.here.lat c.struct_told-3-1.given.0.1),
      to_z-of_z (sf w32 back.lat c.struct_told-4-1.given.0.1),
    ) at c.north-north.ensures in
    rw (
      ← c.back_of-back.ensures,
      ← easts ∙ east_is args.here back args.lon_um,
      ← norths ∙ north_is args.here back args.lon_um,
      ← c.length.ensures,
      ← literal_0,
      c.if-length.false,
    )
