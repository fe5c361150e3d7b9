-- What a match and a road leave, by the parts that are put: this restates private code (`work.rt`, `calls.rt`), each as the engine's own definitions say it (`Work`, `Plans` of the engine).
use Rattle.refusal.specs.Refusal.{number_of}
use Rattle.refusal.specs.declared.Refusal.{Refusal}
use Rattle.std.specs.Prelude.{Some, Result, Ok, Err, ℕ, Bool, false, List, ℤ, ◌==◌}
use Rattle.pack.specs.declared.TileKey.{TileKey}
use Rattle.cache.specs.Lookups.{after}
use Rattle.cache.specs.Uses.{with_uses}
use Rattle.cache.specs.declared.Aging.{Aging}
use Rattle.cache.specs.declared.Cache.{Cache}
use Rattle.matcher.specs.Calls.{reset}
use Rattle.matcher.specs.declared.Matched.{Matched}
use Rattle.matcher.specs.declared.Matcher.{Matcher}
use Rattle.predict.specs.declared.End.TheVariants as End
use Rattle.predict.specs.declared.Outcome.{Outcome}
use Rattle.predict.specs.declared.Prediction.{Prediction}
use Rattle.engine.specs.Work.{counted, ended, emptied, matched, road_done, road_asks, rematch, road_ended_by, with_matcher, with_due, with_ahead}
use Rattle.engine.specs.declared.Ahead.{Ahead}
use Rattle.engine.specs.declared.Due.{Due}
use Rattle.engine.specs.declared.Engine.{Engine}
use Rattle.engine.specs.declared.Fix.{Fix}
use Rattle.engine.specs.declared.Follower.{Follower}
use Rattle.engine.specs.declared.Status.TheVariants as Status
use Rattle.engine.specs.declared.Stepped.{Stepped}

abbrev pub leaves : Engine → Cache → Follower → Engine
leaves e c f = (ended e c f (Ok Status.Working)).engine

-- ---- a match, once clock and ages are put

abbrev pub asked : Engine → Due → Engine
asked e due = leaves e e.shared.cache (with_due (counted e.follower) due)

abbrev pub found : Engine → Matcher → Due → Engine
found e m due = leaves e e.shared.cache (with_due (with_matcher (counted e.follower) m) due)

abbrev pub lost : Engine → Matcher → Due → ℕ → Engine
lost e m due at =
    leaves e e.shared.cache (with_due (with_ahead (with_matcher (counted e.follower) m) (emptied e.follower.ahead at End.Uncertain)) due)

abbrev pub made : Engine → Fix → Matcher → Engine
made e fix m = leaves e e.shared.cache (matched (counted e.follower) m fix)

-- ---- a road: of the cache it changes clock and ages alone

abbrev pub rematched : Engine → Aging → Engine
rematched e uses = leaves e (with_uses e.shared.cache uses) (rematch (counted e.follower))

abbrev pub published : Engine → Aging → ℕ → Ahead → Engine
published e uses at road =
    leaves e (with_uses e.shared.cache uses) (with_ahead (with_due (counted e.follower) (road_done e.follower.due at)) road)

abbrev pub road_needs : Engine → Aging → Fix → Matched → TileKey → Engine
road_needs e uses fix m key =
    leaves e (with_uses e.shared.cache uses) (road_asks (counted e.follower) e.shared.cache.pages.count fix m key)

abbrev pub road_of : ℕ → ℕ → Matched → Prediction → List ℤ → List ℤ → Ahead
road_of generation at m p samples behind = record {
  generation = after generation;
  at_ms = at;
  matched = Some m;
  start_z_dm = m.z_dm;
  samples = samples;
  len = p.len;
  behind = behind;
  behind_len = p.behind;
  behind_m = p.behind_m;
  end = p.end;
  end_m = p.end_m;
  confidence = p.confidence;
}

abbrev pub road_ended : Engine → Fix → Matched → Result Outcome Refusal → Aging → List ℤ → List ℤ → Stepped
road_ended e fix m answer uses samples behind =
    road_ended_by answer e (counted e.follower) fix m
    (record { predicted = record { answer = answer; cache = with_uses e.shared.cache uses }; samples = samples; behind = behind })

-- the late 12, after which clock and ages stay as they were
abbrev pub is_stale : Result Outcome Refusal → Bool
is_stale (Ok outcome) = false
is_stale (Err refusal) = number_of refusal == 12

-- ---- off the map: a road that is published goes, and its match

abbrev pub road_gone : Engine → ℕ → Engine
road_gone e at = record { shared = e.shared; follower = with_ahead (with_matcher e.follower reset) (emptied e.follower.ahead at End.MapEdge) }
