-- `engine::fixes::course_of` meets its contract: each arm by the place found and the answers of its callees, the fix's numbers read back from
-- their bits.
use Rattle.std.proofs.Common.{sym, ◌∙◌, w32}
use Rattle.pack.proofs.Signed.{got}
use Rattle.engine.specs.Fixes.{course_of}
use Rattle.engine.proofs.fixes.course_of.Goals as goal

pub returns-in-None : goal.returns-in-None
unfolding course_of
returns-in-None c =
    let fix = c.args.fix in
    let lat = got w32 {z = fix.lat} c.struct_told-1.given.0.1 in
    let lon = got w32 {z = fix.lon} c.struct_told-1.given.1.0.1 in
    let found = rw (c.lon_scale_um-lon_um.ensures, lat, lon) at c.moved_from.ensures in
    rw (sym found ∙ c.in-None.is)

pub returns-in-Some : goal.returns-in-Some
unfolding course_of
returns-in-Some c =
    let fix = c.args.fix in
    let lat = got w32 {z = fix.lat} c.struct_told-1.given.0.1 in
    let lon = got w32 {z = fix.lon} c.struct_told-1.given.1.0.1 in
    let found = rw (c.lon_scale_um-lon_um.ensures, lat, lon) at c.moved_from.ensures in
    rw (
      sym found ∙ c.in-Some.is,
      c.bearing.ensures,
      c.metres-m.ensures,
      c.place_at-old.ensures,
      c.lon_scale_um-lon_um.ensures,
      lat,
      lon,
    )
