-- `engine::fixes::seen` meets its contract: each field by the answer of its callee, the fix's numbers read back from their bits.
use Rattle.std.proofs.Common.{w32}
use Rattle.pack.proofs.Signed.{got}
use Rattle.engine.specs.Fixes.{seen}
use Rattle.engine.proofs.fixes.seen.Goals as goal

pub returns : goal.returns
unfolding seen
returns c =
    let fix = c.args.fix in
    rw (
      c.fresh-heading.ensures,
      c.push-history.ensures,
      c.course_of-course.ensures,
      got w32 {z = fix.lat} c.struct_told-1.given.0.1,
      got w32 {z = fix.lon} c.struct_told-1.given.1.0.1,
    )
