-- The road ahead: `predict.rs`, `predict`. `predict_over` is written once over a look and a page count and knows no cache: the direct engine
-- shares it. `predict` is it at the cache's look, with what the lookups did to clock and ages. Order (document 01, "Refused"): 12; 9 for the
-- start's key; without direction Uncertain, before any lookup; the late 12, 5, 6 and 10 of the start; then 12 late or 5 at any lookup of the
-- walk. Every height of both arrays is given in every case. Any horizon is accepted.
use Rattle.refusal.specs.Refusal.{number_of}
use Rattle.refusal.specs.declared.Refusal.{Refusal}
use Rattle.std.specs.Prelude.{Result, Ok, Err, ◌==◌, ℕ, Bool, false, not, cond, List, [], ℤ, pos, Float, length, Option, Some, None}
use Rattle.std.specs.Float.{binary32}
use Rattle.std.specs.Float.Ieee.{to_unsigned, mul, div}
use Rattle.num.specs.Order.{clamp}
use Rattle.pack.specs.Grid.{in_grid}
use Rattle.pack.specs.declared.Header.{Header}
use Rattle.pack.specs.declared.TileKey.{TileKey}
use Rattle.tile.specs.Layout as Layout
use Rattle.tile.specs.declared.Edge.{Edge}
use Rattle.geo.specs.declared.Point.{Point}
use Rattle.geo.specs.Flat.{whole}
use Rattle.cache.specs.declared.Cache.{Cache}
use Rattle.cache.specs.State.{cache_ok}
use Rattle.cache.specs.Direct.{Look, ready, missing, absent, stale, look, looked}
use Rattle.cache.specs.declared.Lookup.{Lookup}
use Rattle.cache.specs.Ages.{aged}
use Rattle.cache.specs.Reader.{Reader, plain, in_bytes, in_looks}
use Rattle.matcher.specs.declared.Heading.TheVariants as Heading
use Rattle.matcher.specs.declared.Matched.{Matched}
use Rattle.matcher.specs.Score.{same_id}
use Rattle.predict.specs.declared.Mark.{Mark}
use Rattle.predict.specs.Samples.{pushed}
use Rattle.predict.specs.declared.outgoing.Leg.{Leg}
use Rattle.predict.specs.declared.Trip.{Trip}
use Rattle.predict.specs.declared.ridden.Behind.{Behind}
use Rattle.predict.specs.Start.{start_ok, first_of, place}
use Rattle.predict.specs.Incoming.{first}
use Rattle.predict.specs.Ridden as Ridden
use Rattle.predict.specs.declared.End.{End}
use Rattle.predict.specs.declared.Ending.{Ending}
use Rattle.predict.specs.Meets.{budget}
use Rattle.predict.specs.declared.Track.{Track}
use Rattle.predict.specs.declared.Walk.{Walk}
use Rattle.predict.specs.Walk.{Run, walk_over}
use Rattle.predict.specs.declared.Outcome.{Outcome}
use Rattle.predict.specs.declared.Predicted.{Predicted}
use Rattle.predict.specs.declared.Prediction.{Prediction}

-- ---- the road of a start

abbrev pub leg_of : Header → Matched → Edge → Bool → Leg
leg_of h m e forward = record { header = h; key = m.tile.key; edge = e; forward = forward }

abbrev pub no_mark : Mark
no_mark = Ridden.no_mark

-- how far the road has been followed before its first edge
unfoldable pub track_from : Point → Mark → Track
track_from here mark = record { here = here; distance = whole 0; mark = mark; history = first here; over = false }

-- the walk before its first edge
unfoldable pub walk_from : Matched → Leg → Walk
walk_from m leg = record {
  way = record { tile = leg.key; edge = m.edge; forward = leg.forward };
  from = first_of leg m.segment;
  entry = Heading.Nothing;
  approach = whole 0;
  road = record { class = leg.edge.class; group = leg.edge.group; flags = leg.edge.flags };
  confidence = div binary32 (whole m.confidence) (whole 100);
  ending = Ending.Going;
}

-- what is answered of a walk; the confidence from 0 to 100
unfoldable pub prediction : Walk → Track → End → Behind → Prediction
prediction w t end b = record {
  len = t.mark.len;
  behind = b.len;
  behind_m = b.m;
  end = end;
  end_m = t.distance;
  confidence = to_unsigned 8 (clamp (mul binary32 w.confidence (whole 100)) (whole 0) (whole 100));
}

-- a walk that still goes on after its last edge is Uncertain
abbrev pub outcome_by : Ending → Walk → Track → Behind → Result Outcome Refusal
outcome_by Ending.Going w t b = Ok (Outcome.Road (prediction w t End.Uncertain b))
outcome_by (Ending.Stops end) w t b = Ok (Outcome.Road (prediction w t end b))
outcome_by (Ending.Need key) w t b = Ok (Outcome.Need key)
outcome_by Ending.Stale w t b = Err Refusal.BadState

abbrev pub outcome : Walk → Track → Behind → Result Outcome Refusal
outcome w t b = outcome_by w.ending w t b

-- an answer, both arrays of heights, and what the lookups carry
pub record Forecast (S : Type 0) : Type 0 where
  pub answer : Result Outcome Refusal
  pub samples : List ℤ
  pub behind : List ℤ
  pub carried : S

abbrev pub forecast_of : {S : Type 0} → Run S → Behind → List ℤ → Forecast S
forecast_of r b behind = record { answer = outcome r.walk r.track b; samples = r.heights; behind = behind; carried = r.carried }

abbrev pub uncertain : Result Outcome Refusal
uncertain = Ok (Outcome.Road (record { len = 0; behind = 0; behind_m = whole 0; end = End.Uncertain; end_m = whole 0; confidence = 0 }))

abbrev pub trip_of : Header → Matched → Float → Trip
trip_of h m horizon = record { header = h; horizon_m = horizon; z_dm = m.z_dm }

module _ {S : Type 0} (rd : Reader S) (n : ℕ) where
  -- behind the rider against the direction of travel, then ahead
  unfoldable pub road_over : Trip → Matched → Bool → S → List ℕ → List ℤ → List ℤ → Forecast S
  road_over trip m forward s bs samples behind =
      let e = Layout.edge_of bs m.edge in
      let here = place trip.header bs e m in
      let b = Ridden.ridden trip (leg_of trip.header m e (not forward)) bs (Layout.head_of bs).lon_um m here behind in
      let p = pushed no_mark samples (whole 0) (pos 0) in
      forecast_of (walk_over rd trip (budget n) (walk_from m (leg_of trip.header m e forward)) (track_from here p.mark) s p.heights) b.behind b.heights

  -- nothing was written
  abbrev pub nothing : Result Outcome Refusal → S → List ℤ → List ℤ → Forecast S
  nothing answer s samples behind = record { answer = answer; samples = samples; behind = behind; carried = s }

  -- the tile that was found: 6 for another one, then 10
  abbrev pub tile_over : Trip → Matched → Bool → S → List ℕ → List ℤ → List ℤ → Forecast S
  tile_over trip m forward s bs samples behind =
      cond (same_id (Layout.id_of bs) m.tile)
      (cond (start_ok bs m) (road_over trip m forward s bs samples behind) (nothing (Err Refusal.BadStart) s samples behind))
      (nothing (Ok Outcome.Rematch) s samples behind)

  abbrev pub start_look : Look → Header → Matched → Bool → Float → S → List ℤ → List ℤ → Forecast S
  start_look (ready bs) h m forward horizon s samples behind =
      tile_over (trip_of h m horizon) m forward (rd.found s m.tile.key) bs samples behind
  start_look missing h m forward horizon s samples behind = nothing (Ok Outcome.Rematch) s samples behind
  start_look absent h m forward horizon s samples behind = nothing (Ok (Outcome.Need m.tile.key)) s samples behind
  start_look stale h m forward horizon s samples behind = nothing (Err Refusal.BadState) s samples behind

  abbrev pub start_over : Header → Matched → Bool → Float → S → List ℤ → List ℤ → Forecast S
  start_over h m forward horizon s samples behind = start_look (rd.at s m.tile.key) h m forward horizon s samples behind

  -- without a direction nothing is looked up
  abbrev pub directed_over : Option Bool → Header → Matched → Float → S → List ℤ → List ℤ → Forecast S
  directed_over None h m horizon s samples behind = nothing uncertain s samples behind
  directed_over (Some forward) h m horizon s samples behind = start_over h m forward horizon s samples behind

  unfoldable pub forecast_over : Header → Matched → Float → S → List ℤ → List ℤ → Forecast S
  forecast_over h m horizon s samples behind = directed_over m.forward h m horizon s samples behind

-- THE definition, over any look and any page count; it carries the keys found, in order
abbrev pub predict_over : (TileKey → Look) → ℕ → Header → Matched → Float → List ℤ → List ℤ → Forecast (List TileKey)
predict_over at n h m horizon samples behind = forecast_over (plain at) n h m horizon [] samples behind

-- ---- at the cache's look

-- an answer with the state after it, and both arrays
pub record After : Type 0 where
  pub predicted : Predicted
  pub samples : List ℤ
  pub behind : List ℤ

-- on the late 12 the state is the one given
abbrev pub cache_after : Result Outcome Refusal → Cache → Cache → Cache
cache_after (Ok outcome) c d = d
cache_after (Err e) c d = cond (number_of e == 12) c d

abbrev pub refused : Cache → Refusal → Predicted
refused c e = record { answer = Err e; cache = c }

abbrev pub untouched : Predicted → List ℤ → List ℤ → After
untouched p samples behind = record { predicted = p; samples = samples; behind = behind }

unfoldable pub predicted_in : Cache → List ℕ → Header → Matched → Float → List ℤ → List ℤ → After
predicted_in c arena h m horizon samples behind =
    let f = predict_over (look c arena h.tile) c.pages.count h m horizon samples behind in
    record {
      predicted = record { answer = f.answer; cache = cache_after f.answer c (looked c arena h.tile f.carried) };
      samples = f.samples;
      behind = f.behind;
    }

-- `predict` past number 12's test
abbrev pub predict_tested : Cache → List ℕ → Header → Matched → Float → List ℤ → List ℤ → After
predict_tested c arena h m horizon samples behind =
    cond (in_grid h m.tile.key) (predicted_in c arena h m horizon samples behind) (untouched (refused c Refusal.OutsideGrid) samples behind)

unfoldable pub predict : Cache → List ℕ → Header → Matched → Float → List ℤ → List ℤ → After
predict c arena h m horizon samples behind =
    cond (cache_ok c h (length arena)) (predict_tested c arena h m horizon samples behind) (untouched (refused c Refusal.BadState) samples behind)

-- ---- the code's

abbrev pub no_direction : Cache → Predicted
no_direction c = record { answer = uncertain; cache = c }

abbrev pub closed : Cache → List ℕ → Result Outcome Refusal → Predicted
closed c looks answer = record { answer = answer; cache = cache_after answer c (aged c looks) }

abbrev pub after_of : Cache → Forecast (List ℕ) → After
after_of c f = record { predicted = closed c f.carried f.answer; samples = f.samples; behind = f.behind }

unfoldable pub road_of : List ℕ → List ℕ → ℕ → Trip → Matched → Bool → List ℕ → List ℤ → List ℤ → Forecast (List ℕ)
road_of looks arena n trip m forward bs samples behind = road_over (in_looks arena trip.header.tile) n trip m forward looks bs samples behind

unfoldable pub from_tile : List ℕ → List ℕ → ℕ → Trip → Matched → Bool → List ℕ → List ℤ → List ℤ → Forecast (List ℕ)
from_tile looks arena n trip m forward bs samples behind = tile_over (in_looks arena trip.header.tile) n trip m forward looks bs samples behind

-- by the answer of the lookup of the start's tile, with the numbers after it
abbrev pub started_look : Look → List ℕ → List ℕ → ℕ → Header → Matched → Bool → Float → List ℤ → List ℤ → Forecast (List ℕ)
started_look (ready bs) looks arena n h m forward horizon samples behind = from_tile looks arena n (trip_of h m horizon) m forward bs samples behind
started_look missing looks arena n h m forward horizon samples behind = nothing (in_looks arena h.tile) n (Ok Outcome.Rematch) looks samples behind
started_look absent looks arena n h m forward horizon samples behind =
    nothing (in_looks arena h.tile) n (Ok (Outcome.Need m.tile.key)) looks samples behind
started_look stale looks arena n h m forward horizon samples behind = nothing (in_looks arena h.tile) n (Err Refusal.BadState) looks samples behind

unfoldable pub started_by : List ℕ → List ℕ → ℕ → Header → Result Lookup Refusal → Matched → Bool → Float → List ℤ → List ℤ → Forecast (List ℕ)
started_by looks arena n h answer m forward horizon samples behind = started_look (in_bytes answer arena) looks arena n h m forward horizon samples behind

-- over the numbers that lookups go by, for the crates above (`looks_predict`)
unfoldable pub from_looks : List ℕ → List ℕ → ℕ → Header → Matched → Float → List ℤ → List ℤ → Forecast (List ℕ)
from_looks looks arena n h m horizon samples behind = forecast_over (in_looks arena h.tile) n h m horizon looks samples behind
