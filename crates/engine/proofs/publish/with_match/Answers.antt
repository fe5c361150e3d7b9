-- `engine::publish::with_match` meets its contract: the count by its callee, and the match's height read back from its bits.
use Rattle.std.proofs.Common.{w32}
use Rattle.pack.proofs.Signed.{got}
use Rattle.engine.specs.Publish.{with_match}
use Rattle.engine.proofs.publish.with_match.Goals as goal

pub returns : goal.returns
unfolding with_match
returns c =
    let found = c.args.found in
    rw (got w32 {z = found.z_dm} c.struct_told-1.given.1.1.1.1.1.1.0.1, c.wrapping_add_u32.ensures.value)
