-- `engine::fixes::moved_from` meets its contract. The loop's invariant: what is left to look through has the same answer as the whole. Assumes
-- nothing.
use Rattle.std.proofs.Common.{◌≡◌, ℕ}
use Rattle.predict.specs.Incoming.{highest}
use Rattle.engine.specs.Fixes.{is_move, moved_from}
use Rattle.engine.proofs.fixes.moved_from.Given as goal

abbrev pub invariant-loop-i : goal.invariant-loop-i
invariant-loop-i l = highest (λ (j : ℕ). is_move l.h l.here l.lon_um j) l.i ≡ moved_from l.h l.here l.lon_um

abbrev pub decreases-loop-i : goal.decreases-loop-i
decreases-loop-i l = l.i
