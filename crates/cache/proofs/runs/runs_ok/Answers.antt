-- `cache::runs::runs_ok` meets its contract. The loop's invariant: what is known of the pages passed, with the last run (`Passed`).
use Rattle.std.proofs.Common.{◌≡◌, length, arith}
use Rattle.cache.proofs.PassLaws.{pass_ends}
use Rattle.cache.proofs.runs.runs_ok.Goals as goal

pub returns : goal.returns
returns c =
    let at_loop = c.loop-p in
    let g = c.args.g in
    let size : length g.slots ≡ 96 = c.well_formed.0.1.1.0.1.0.1 in
    pass_ends g at_loop.p at_loop.last size at_loop.invariant.1 at_loop.invariant.0 (omega arith)
