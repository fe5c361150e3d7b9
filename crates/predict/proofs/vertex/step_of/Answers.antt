-- `predict::vertex::step_of` meets its contract: by the answers of `east`, `north` and `length`.
use mir.Facts.{to_z-of_z}
use mir.Syntax.{w32}
use Rattle.geo.specs.Flat.{metres_of}
use Rattle.predict.specs.Spots.{east_of, north_of}
use Rattle.predict.proofs.Signed.{sf}
use Rattle.predict.proofs.vertex.step_of.Goals as goal

pub returns : goal.returns
unfolding metres_of east_of north_of
returns c =
    let args = c.args in
    rw (
      c.length.ensures,
      rw (
        to_z-of_z (sf w32 args.to.lat c.struct_told-3-1.given.0.1),
        to_z-of_z (sf w32 args.from.lat c.struct_told-4-1.given.0.1),
      ) at c.north-north.ensures,
      rw (
        to_z-of_z (sf w32 args.to.lon c.struct_told-1.given.1.0.1),
        to_z-of_z (sf w32 args.from.lon c.struct_told-2-1.given.1.0.1),
      ) at c.east-east.ensures,
    )
