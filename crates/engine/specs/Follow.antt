-- A follower from its start, and what a fix, the loss of fixes and a reset do to it: `engine.rs`, `new`, `fix`, `lost` and `reset`: "`reset`
-- keeps fix, history and heading" (document 01).
use Rattle.matcher.specs.declared.Matched.{Matched}
use Rattle.std.specs.Prelude.{Option, Some, None, Bool, true, false, cond, Float}
use Rattle.num.specs.Order.{min}
use Rattle.geo.specs.Flat.{whole}
use Rattle.matcher.specs.Calls as Matching
use Rattle.engine.specs.declared.Due.{Due}
use Rattle.engine.specs.declared.Fix.{Fix}
use Rattle.engine.specs.declared.Follower.{Follower}
use Rattle.engine.specs.declared.Ahead.{Ahead}
use Rattle.engine.specs.Fixes as Fixes
use Rattle.engine.specs.Publish.{nothing_ahead, forgotten}
use Rattle.engine.specs.Setters.{with_sight, with_matcher, with_due, with_ahead, with_failures, with_matching, with_road}

abbrev pub nothing_done : Bool → Due
nothing_done matching = record { matching = matching; road = false; last_road = None; need = None; reloads = 0 }

-- `horizon_m.min(10,000)`: not-a-number becomes 10,000
unfoldable pub fresh : Float → Follower
fresh horizon = record {
  sight = Fixes.nothing_seen;
  matcher = Matching.reset;
  due = nothing_done false;
  ahead = nothing_ahead 0;
  failures = 0;
  horizon_m = min horizon (whole 10000);
  steps = 0;
}

abbrev pub match_asked : Due → Due
match_asked d = with_matching d true

abbrev pub nothing_asked : Due → Due
nothing_asked d = with_road (with_matching d false) false

-- a match is due; nothing changes where the fix is at the same place
unfoldable pub fixed : Follower → Fix → Follower
fixed f fix =
    cond (Fixes.is_same_place f.sight.fix fix) f
    (with_due (with_sight f (Fixes.seen f.sight fix)) (match_asked f.due))

abbrev pub is_matched : Option Matched → Bool
is_matched None = false
is_matched (Some m) = true

-- a road that is published goes
abbrev pub lost_ahead : Ahead → Ahead
lost_ahead a = cond (is_matched a.matched) (forgotten a) a

unfoldable pub lost : Follower → Follower
lost f = with_ahead (with_due (with_matcher (with_sight f (Fixes.lost f.sight)) Matching.reset) (nothing_asked f.due)) (lost_ahead f.ahead)

abbrev pub has_fix : Option Fix → Bool
has_fix None = false
has_fix (Some fix) = true

unfoldable pub reset : Follower → Follower
reset f = with_failures (with_ahead (with_due (with_matcher f Matching.reset) (nothing_done (has_fix f.sight.fix))) (forgotten f.ahead)) 0
