-- What the engine holds beside the cache stays within its types: the fixes and the heading (`seen_typed`), what is due, and the road that is published or emptied. The idea: a heading is a bearing
-- or the one before, and a road's numbers are its match's and its prediction's.
use Rattle.std.specs.Prelude.{Option, Some, None}
use Prim.Native.Nat.{ℕ, ◌+◌, ◌-◌, ◌<◌, ◌≤◌}
use mathlib.Core.Path.{◌≡◌, ◌∙◌}
use mathlib.Core.Bool.{Bool, true}
use mathlib.Core.List.{List, ◌++◌}
use native.Mathlib.Omega.{arith}
use borrow.Author.Tests.{ltb-true}
use lib.Dec.{ltb}
use lib.IntN.{ℤ, pos}
use lib.Ieee.{Float, binary32}
use lib.Ieee.Fits.{mul-fits}
use lib.ListN.{length, get_or, take, drop, replicate, length-append, length-take, length-drop, length-set, length-replicate}
use Rattle.pack.specs.declared.TileKey.{TileKey}
use Rattle.angle.specs.Cosine.{lon_scale_um}
use Rattle.geo.specs.Flat.{whole, metres_of}
use Rattle.geo.specs.declared.Point.{Point}
use Rattle.matcher.specs.Calls as Matching
use Rattle.matcher.specs.declared.Heading.{Heading}
use Rattle.matcher.specs.declared.Matched.{Matched}
use Rattle.matcher.specs.declared.Matcher.{Matcher}
use Rattle.predict.specs.declared.End.{End}
use Rattle.predict.specs.declared.Prediction.{Prediction}
use Rattle.engine.specs.Fixes as Fixes
use Rattle.engine.specs.Fixes.{no_point, shifted, push, moved_from, place_of, course_by, course_of, seen, is_same_place}
use Rattle.engine.specs.Follow as Followers
use Rattle.engine.specs.Publish.{nothing_ahead, forgotten, without_match, with_match}
use Rattle.engine.specs.State.{reload_limit}
use Rattle.engine.specs.Work.{with_due, with_ahead, with_matcher, counted, is_matched, emptied, off_map, asking, may_ask, match_done, matched_by, matched, match_asks, no_road, road_done, published, road_asks, rematch, with_heights}
use Rattle.engine.specs.declared.Ahead.{Ahead}
use Rattle.engine.specs.declared.Due.{Due}
use Rattle.engine.specs.declared.Fix.{Fix}
use Rattle.engine.specs.declared.Follower.{Follower}
use Rattle.engine.specs.declared.Places.{Places}
use Rattle.engine.specs.declared.Sight.{Sight}
use Rattle.words.specs.Typed.{Word, Signed, Height, Single, TypedKey, TypedPoint, TypedPlaces, TypedHeading, TypedSight, TypedMatched, TypedMatcher, TypedDue, TypedAhead, TypedFollower}
use Rattle.terrain_lists.proofs.Everywhere.{All, all_set, all_drop, all_take, all_append, all_replicate, beyond}
use Rattle.terrain_lists.proofs.Numbers.{single_whole, single_min, single_bearing}
use Rattle.terrain_lists.proofs.MatchTyped.{reset_typed}
use Rattle.terrain_lists.proofs.RoadTyped.{Heights, FiguresTyped}
use Rattle.terrain_lists.proofs.Either.{either, either_true}

-- ---- the places of the last fixes

no_point_lem : TypedPoint no_point
no_point_lem = (omega arith, omega arith)

points_typed : (h : Places) → TypedPlaces h → All TypedPoint no_point h.v
points_typed h t = beyond TypedPoint no_point 16 h.v t.v no_point_lem t.point

places_typed : (h : Places) → length h.v ≡ 16 → All TypedPoint no_point h.v → Word h.len → TypedPlaces h
places_typed h l all w = record { v = l; point = λ (i : ℕ) (below : i < 16). all i; len = w }

shifted_long : (v : List Point) → length v ≡ 16 → length (drop 1 (take 16 v) ++ drop 15 v) ≡ 16
shifted_long v l =
    let one : length (take 16 v) ≡ 16 = length-take 16 v ∙ rw l in
    let two : length (drop 1 (take 16 v)) ≡ 15 = length-drop 1 (take 16 v) ∙ rw one in
    let three : length (drop 15 v) ≡ 1 = length-drop 15 v ∙ rw l in
    length-append (drop 1 (take 16 v)) (drop 15 v) ∙ rw (two, three)

push_typed : (h : Places) (here : Point) → TypedPlaces h → TypedPoint here → TypedPlaces (push h here)
unfolding push shifted
push_typed h here t p =
    let all : All TypedPoint no_point h.v = points_typed h t in
    let on : List Point = drop 1 (take 16 h.v) ++ drop 15 h.v in
    either_true TypedPlaces (ltb h.len 16) _ _
    (λ (e : ltb h.len 16 ≡ true).
    places_typed _ (length-set h.v h.len here ∙ t.v) (all_set TypedPoint no_point h.v h.len here all p) (omega (arith, ltb-true h.len 16 e)))
    (places_typed _ (length-set on 15 here ∙ shifted_long h.v t.v)
    (all_set TypedPoint no_point on 15 here
    (all_append TypedPoint no_point (drop 1 (take 16 h.v)) (drop 15 h.v)
    (all_drop TypedPoint no_point 1 (take 16 h.v) (all_take TypedPoint no_point 16 h.v no_point_lem all)) (all_drop TypedPoint no_point 15 h.v all))
    p)
    (omega arith))

-- ---- the heading

east_single : (p o : Point) (lon_um : ℕ) → Single (metres_of p o lon_um).east
unfolding metres_of
east_single p o lon_um = mul-fits binary32 _ _

course_typed : (x : Option ℕ) (s : Sight) (fix : Fix) (lon_um : ℕ) → TypedHeading s.heading → TypedHeading (course_by x s fix lon_um).heading
course_typed None s fix lon_um t = t
course_typed (Some i) s fix lon_um t = single_bearing _ _ (east_single (place_of fix) (Fixes.place_at s.history i) lon_um)

seen_typed : (s : Sight) (fix : Fix) → TypedSight s → Signed fix.lat → Signed fix.lon → TypedSight (seen s fix)
unfolding seen course_of
seen_typed s fix t lat lon =
    let lon_um = lon_scale_um fix.lat in
    let x : Option ℕ = moved_from s.history (place_of fix) lon_um in
    record {
      fix = (lat, lon);
      history = push_typed s.history (place_of fix) t.history (lat, lon);
      heading = either TypedHeading (ltb 120000 (fix.at_ms - (course_by x s fix lon_um).at_ms)) Heading.Nothing (course_by x s fix lon_um).heading tt
          (course_typed x s fix lon_um t.heading);
    }

lost_sight : (s : Sight) → TypedSight s → TypedSight (Fixes.lost s)
lost_sight s t = record {
  fix = tt;
  history = record { v = t.history.v; point = t.history.point; len = omega arith };
  heading = tt;
}

-- ---- the road

zeros : (n : ℕ) (i : ℕ) → Height (get_or (replicate n (pos 0)) i (pos 0))
zeros n i = all_replicate Height (pos 0) n (pos 0) (omega arith) (omega arith) i

pub nothing_typed : (generation : ℕ) → TypedAhead (nothing_ahead generation)
unfolding nothing_ahead
nothing_typed generation = record {
  matched = tt;
  start = omega arith;
  samples = length-replicate 501 (pos 0);
  sample = λ (i : ℕ) (h : i < 501). zeros 501 i;
  len = omega arith;
  behind = length-replicate 11 (pos 0);
  back = λ (i : ℕ) (h : i < 11). zeros 11 i;
  behind_len = omega arith;
  behind_m = single_whole 0;
  end_m = single_whole 0;
  confidence = omega arith;
}

without_typed : (a : Ahead) (at : ℕ) (end : End) → TypedAhead a → TypedAhead (without_match a at end)
unfolding without_match
without_typed a at end t = record {
  matched = tt;
  start = omega arith;
  samples = t.samples;
  sample = t.sample;
  len = omega arith;
  behind = t.behind;
  back = t.back;
  behind_len = omega arith;
  behind_m = single_whole 0;
  end_m = single_whole 0;
  confidence = omega arith;
}

emptied_typed : (a : Ahead) (at : ℕ) (end : End) → TypedAhead a → TypedAhead (emptied a at end)
emptied_typed a at end t = either TypedAhead (is_matched a.matched) _ a (without_typed a at end t) t

with_typed : (a : Ahead) (at : ℕ) (m : Matched) (p : Prediction) → TypedAhead a → TypedMatched m → FiguresTyped p → p.len ≤ 501 → p.behind ≤ 11
    → TypedAhead (with_match a at m p)
unfolding with_match
with_typed a at m p t f q len behind = record {
  matched = f;
  start = f.z;
  samples = t.samples;
  sample = t.sample;
  len = omega (arith, len);
  behind = t.behind;
  back = t.back;
  behind_len = omega (arith, behind);
  behind_m = q.behind;
  end_m = q.end;
  confidence = q.confidence;
}

pub heights_typed : (a : Ahead) (samples behind : List ℤ) → TypedAhead a → Heights 501 samples → Heights 11 behind → TypedAhead (with_heights a samples behind)
heights_typed a samples behind t s b = record {
  matched = t.matched;
  start = t.start;
  samples = s.long;
  sample = λ (i : ℕ) (h : i < 501). s.all i;
  len = t.len;
  behind = b.long;
  back = λ (i : ℕ) (h : i < 11). b.all i;
  behind_len = t.behind_len;
  behind_m = t.behind_m;
  end_m = t.end_m;
  confidence = t.confidence;
}

-- ---- the follower

pub follower_fresh : (horizon : Float) → Single horizon → TypedFollower (Followers.fresh horizon)
unfolding Followers.fresh
follower_fresh horizon h = record {
  sight = record {
    fix = tt;
    history = places_typed _ (length-replicate 16 no_point) (all_replicate TypedPoint no_point 16 no_point no_point_lem no_point_lem) (omega arith);
    heading = tt;
  };
  matcher = reset_typed;
  due = record { need = tt; reloads = omega arith };
  ahead = nothing_typed 0;
  failures = omega arith;
  horizon = single_min horizon (whole 10000) h (single_whole 10000);
}

pub fixed_typed : (f : Follower) (fix : Fix) → TypedFollower f → Signed fix.lat → Signed fix.lon → TypedFollower (Followers.fixed f fix)
unfolding Followers.fixed
fixed_typed f fix t lat lon =
    either TypedFollower (is_same_place f.sight.fix fix) f _ t
    (record {
      sight = seen_typed f.sight fix t.sight lat lon;
      matcher = t.matcher;
      due = record { need = t.due.need; reloads = t.due.reloads };
      ahead = t.ahead;
      failures = t.failures;
      horizon = t.horizon;
    })

pub lost_typed : (f : Follower) → TypedFollower f → TypedFollower (Followers.lost f)
unfolding Followers.lost
lost_typed f t = record {
  sight = lost_sight f.sight t.sight;
  matcher = reset_typed;
  due = record { need = t.due.need; reloads = t.due.reloads };
  ahead = either TypedAhead (Followers.is_matched f.ahead.matched) (forgotten f.ahead) f.ahead (nothing_typed _) t.ahead;
  failures = t.failures;
  horizon = t.horizon;
}

pub follower_reset : (f : Follower) → TypedFollower f → TypedFollower (Followers.reset f)
unfolding Followers.reset
follower_reset f t = record {
  sight = t.sight;
  matcher = reset_typed;
  due = record { need = tt; reloads = omega arith };
  ahead = nothing_typed _;
  failures = omega arith;
  horizon = t.horizon;
}

-- with one part changed
pub changed_due : (f : Follower) (d : Due) → TypedFollower f → TypedDue d → TypedFollower (with_due f d)
changed_due f d t u = record { sight = t.sight; matcher = t.matcher; due = u; ahead = t.ahead; failures = t.failures; horizon = t.horizon }

changed_ahead : (f : Follower) (a : Ahead) → TypedFollower f → TypedAhead a → TypedFollower (with_ahead f a)
changed_ahead f a t u = record { sight = t.sight; matcher = t.matcher; due = t.due; ahead = u; failures = t.failures; horizon = t.horizon }

changed_matcher : (f : Follower) (m : Matcher) → TypedFollower f → TypedMatcher m → TypedFollower (with_matcher f m)
changed_matcher f m t u = record { sight = t.sight; matcher = u; due = t.due; ahead = t.ahead; failures = t.failures; horizon = t.horizon }

pub counted_typed : (f : Follower) → TypedFollower f → TypedFollower (counted f)
counted_typed f t = record { sight = t.sight; matcher = t.matcher; due = t.due; ahead = t.ahead; failures = t.failures; horizon = t.horizon }

module _ (f : Follower) (t : TypedFollower f) where
  pub off_map_typed : (fix : Fix) → TypedFollower (off_map f fix)
  unfolding off_map
  off_map_typed fix =
      changed_due _ _
      (changed_ahead _ _ (changed_matcher f _ t (either TypedMatcher (is_matched f.ahead.matched) Matching.reset f.matcher reset_typed t.matcher))
      (emptied_typed f.ahead fix.at_ms End.MapEdge t.ahead))
      (record { need = t.due.need; reloads = t.due.reloads })

  done_typed : (road : Bool) → TypedDue (match_done f.due road)
  done_typed road = record { need = t.due.need; reloads = omega arith }

  by_current : (x : Option Matched) (m : Matcher) (fix : Fix) → TypedMatcher m → TypedFollower (matched_by x f m fix)
  by_current None m fix u =
      changed_due _ _ (changed_ahead _ _ (changed_matcher f m t u) (emptied_typed f.ahead fix.at_ms End.Uncertain t.ahead)) (done_typed _)
  by_current (Some found) m fix u = changed_due _ _ (changed_matcher f m t u) (done_typed _)

  pub matched_typed : (m : Matcher) (fix : Fix) → TypedMatcher m → TypedFollower (matched f m fix)
  unfolding matched
  matched_typed m fix u = by_current m.current m fix u

  limit_small : (pages : ℕ) → reload_limit pages ≤ 208
  limit_small pages = omega arith

  asking_typed : (pages : ℕ) (key : TileKey) → may_ask f.due pages ≡ true → TypedKey key → TypedFollower (with_due f (asking f.due key (f.due.reloads + 1)))
  asking_typed pages key e k =
      changed_due f _ t (record { need = k; reloads = omega (arith, ltb-true f.due.reloads (reload_limit pages) e, limit_small pages) })

  pub match_asks_typed : (pages : ℕ) (key : TileKey) → TypedKey key → TypedFollower (match_asks f pages key)
  match_asks_typed pages key k =
      either_true TypedFollower (may_ask f.due pages) _ _ (λ (e : may_ask f.due pages ≡ true). asking_typed pages key e k) (changed_due f _ t (done_typed _))

  pub published_typed : (a : Ahead) (fix : Fix) (found : Matched) (p : Prediction) → TypedAhead a → TypedMatched found → FiguresTyped p → p.len ≤ 501 → p.behind ≤ 11
      → TypedFollower (published f a fix found p)
  unfolding published
  published_typed a fix found p u m q len behind =
      changed_ahead _ _ (changed_due f (road_done f.due fix.at_ms) t (record { need = t.due.need; reloads = omega arith }))
      (with_typed a fix.at_ms found p u m q len behind)

  pub road_asks_typed : (pages : ℕ) (fix : Fix) (found : Matched) (key : TileKey) → TypedMatched found → TypedKey key → TypedFollower (road_asks f pages fix found key)
  road_asks_typed pages fix found key m k =
      either_true TypedFollower (may_ask f.due pages) _ _ (λ (e : may_ask f.due pages ≡ true). asking_typed pages key e k)
      (published_typed f.ahead fix found no_road t.ahead m (record { behind = single_whole 0; end = single_whole 0; confidence = omega arith }) (omega arith) (omega arith))

  pub rematch_typed : TypedFollower (rematch f)
  rematch_typed = changed_due _ _ (changed_matcher f Matching.reset t reset_typed) (record { need = t.due.need; reloads = t.due.reloads })
