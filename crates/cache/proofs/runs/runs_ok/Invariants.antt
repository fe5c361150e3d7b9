-- `cache::runs::runs_ok` meets its contract. The loop's invariant: what is known of the pages passed, with the last run (`Passed`).
use Rattle.std.proofs.Common.{◌≤◌}
use Rattle.cache.proofs.PassLaws.{Passed}
use Rattle.cache.proofs.runs.runs_ok.Given as goal

abbrev pub invariant-loop-p : goal.invariant-loop-p
invariant-loop-p l = (l.g.count ≤ 96) × Passed l.g.slots l.g.count l.p l.last
