-- `engine::work::match_step` meets its contract: by the answers of its callees, with the place read back from its bits; a match leaves the cache as it was but for clock and ages.
use Rattle.std.proofs.Common.{w32}
use Rattle.pack.proofs.Signed.{got}
use Rattle.matcher.proofs.GatherLaws.{updated_uses}
use Rattle.engine.specs.Fixes.{place_of}
use Rattle.engine.specs.Work.{match_step}
use Rattle.engine.proofs.work.match_step.Goals as goal

pub returns : goal.returns
unfolding match_step
returns c =
    let args = c.args in
    let fix = args.fix in
    let e = args.e in
    rw (
      c.match_ended.ensures,
      c.made-u.ensures,
      got w32 {z = fix.lat} c.struct_told-1.given.0.1,
      got w32 {z = fix.lon} c.struct_told-1.given.1.0.1,
      updated_uses e.follower.matcher e.shared.cache args.arena.now e.shared.header (place_of fix) e.follower.sight.heading,
    )
