-- Two readers that answer the same, while what they carry stays related, give the same road (`forecast_simulates`). Two looks that
-- agree give the same road where it finishes at the first (`predict_agrees`). The idea: the same of the walk, by cases of the start's one lookup.
use Rattle.refusal.specs.declared.Refusal.{Refusal}
use Rattle.std.specs.Prelude.{Result, Ok, Err}
use Rattle.std.proofs.Common.{Option, Some, None}
use Prim.Native.Nat.{ℕ}
use mathlib.Core.Path.{◌≡◌, refl, sym, ap}
use mathlib.Core.Bool.{Bool, true, false, cond, true≢false}
use mathlib.Core.List.{List, []}
use lib.IntN.{ℤ}
use lib.Ieee.{Float}
use Rattle.pack.specs.declared.Header.{Header}
use Rattle.pack.specs.declared.TileKey.{TileKey}
use Rattle.tile.specs.Layout as Layout
use Rattle.cache.specs.Direct.{Look, ready, missing, absent, stale, settled, Agree}
use Rattle.cache.specs.Reader.{Reader, plain}
use Rattle.matcher.specs.declared.Matched.{Matched}
use Rattle.matcher.specs.Score.{same_id}
use Rattle.predict.specs.declared.Track.{Track}
use Rattle.predict.specs.declared.Trip.{Trip}
use Rattle.predict.specs.declared.ridden.Behind.{Behind}
use Rattle.predict.specs.Start.{start_ok}
use Rattle.predict.specs.declared.Ending.{Ending}
use Rattle.predict.specs.Meets.{budget}
use Rattle.predict.proofs.CrossLaws.{is_settled}
use Rattle.predict.specs.declared.Walk.{Walk}
use Rattle.predict.specs.Walk.{Run}
use Rattle.predict.proofs.WalkLaws.{AlikeRun, walk_simulates, walk_agrees}
use Rattle.predict.specs.declared.Outcome.{Outcome}
use Rattle.predict.specs.Predict.{outcome_by, outcome, Forecast, forecast_of, trip_of, road_over, nothing, tile_over, start_look, directed_over, forecast_over}
use Rattle.predict.specs.Relied.{is_finished, PredictAgrees}

-- ---- two readers

-- the same but for what is carried, which is related
pub record AlikeForecast {S T : Type 0} (R : S → T → Type 0) (f : Forecast S) (g : Forecast T) : Type 0 where
  pub answer : g.answer ≡ f.answer
  pub samples : g.samples ≡ f.samples
  pub behind : g.behind ≡ f.behind
  pub carried : R f.carried g.carried

module _ {S T : Type 0} (rd : Reader S) (rd' : Reader T) (R : S → T → Type 0)
    (at : (s : S) (t : T) (key : TileKey) → R s t → rd'.at t key ≡ rd.at s key)
    (found : (s : S) (t : T) (key : TileKey) (bs : List ℕ) → R s t → rd.at s key ≡ ready bs → R (rd.found s key) (rd'.found t key))
    (n : ℕ)
  where
    run_simulates : (x : Run S) (y : Run T) (b : Behind) (behind : List ℤ) → AlikeRun R x y → AlikeForecast R (forecast_of x b behind) (forecast_of y b behind)
    run_simulates x y b behind h = record { answer = by y.walk y.track h.walk h.track; samples = h.heights; behind = refl; carried = h.carried }
      where
        by : (w : Walk) (t : Track) → w ≡ x.walk → t ≡ x.track → outcome w t b ≡ outcome x.walk x.track b
        by w t p q = rw (p, q)

    road_simulates : (trip : Trip) (m : Matched) (forward : Bool) (s : S) (t : T) → R s t → (bs : List ℕ) (samples behind : List ℤ)
        → AlikeForecast R (road_over rd n trip m forward s bs samples behind) (road_over rd' n trip m forward t bs samples behind)
    unfolding road_over
    road_simulates trip m forward s t h bs samples behind =
        run_simulates _ _ _ _
        (walk_simulates rd rd' R at found trip (budget n) _ _ (record { walk = refl; track = refl; visited = refl; met = refl; heights = refl; carried = h }) 2000)

    nothing_simulates : (answer : Result Outcome Refusal) (s : S) (t : T) → R s t → (samples behind : List ℤ)
        → AlikeForecast R (nothing rd n answer s samples behind) (nothing rd' n answer t samples behind)
    nothing_simulates answer s t h samples behind = record { answer = refl; samples = refl; behind = refl; carried = h }

    tile_simulates : (trip : Trip) (m : Matched) (forward : Bool) (s : S) (t : T) → R s t → (bs : List ℕ) (samples behind : List ℤ)
        → AlikeForecast R (tile_over rd n trip m forward s bs samples behind) (tile_over rd' n trip m forward t bs samples behind)
    tile_simulates trip m forward s t h bs samples behind = by (same_id (Layout.id_of bs) m.tile) (start_ok bs m)
      where
        by : (same ok : Bool)
            → AlikeForecast R
            (cond same (cond ok (road_over rd n trip m forward s bs samples behind) (nothing rd n (Err Refusal.BadStart) s samples behind))
            (nothing rd n (Ok Outcome.Rematch) s samples behind))
            (cond same (cond ok (road_over rd' n trip m forward t bs samples behind) (nothing rd' n (Err Refusal.BadStart) t samples behind))
            (nothing rd' n (Ok Outcome.Rematch) t samples behind))
        by true true = road_simulates trip m forward s t h bs samples behind
        by true false = nothing_simulates (Err Refusal.BadStart) s t h samples behind
        by false ok = nothing_simulates (Ok Outcome.Rematch) s t h samples behind

    start_simulates : (l : Look) (h : Header) (m : Matched) (forward : Bool) (horizon : Float) (s : S) (t : T) → R s t → rd.at s m.tile.key ≡ l
        → (samples behind : List ℤ)
        → AlikeForecast R (start_look rd n l h m forward horizon s samples behind) (start_look rd' n l h m forward horizon t samples behind)
    start_simulates (ready bs) h m forward horizon s t r e samples behind =
        tile_simulates (trip_of h m horizon) m forward (rd.found s m.tile.key) (rd'.found t m.tile.key) (found s t m.tile.key bs r e) bs samples
        behind
    start_simulates missing h m forward horizon s t r e samples behind = nothing_simulates (Ok Outcome.Rematch) s t r samples behind
    start_simulates absent h m forward horizon s t r e samples behind = nothing_simulates (Ok (Outcome.Need m.tile.key)) s t r samples behind
    start_simulates stale h m forward horizon s t r e samples behind = nothing_simulates (Err Refusal.BadState) s t r samples behind

    directed_simulates : (forward : Option Bool) (h : Header) (m : Matched) (horizon : Float) (s : S) (t : T) → R s t → (samples behind : List ℤ)
        → AlikeForecast R (directed_over rd n forward h m horizon s samples behind) (directed_over rd' n forward h m horizon t samples behind)
    directed_simulates None h m horizon s t r samples behind = record { answer = refl; samples = refl; behind = refl; carried = r }
    directed_simulates (Some forward) h m horizon s t r samples behind =
        rw (at s t m.tile.key r) (start_simulates (rd.at s m.tile.key) h m forward horizon s t r refl samples behind)

    pub forecast_simulates : (h : Header) (m : Matched) (horizon : Float) (s : S) (t : T) → R s t → (samples behind : List ℤ)
        → AlikeForecast R (forecast_over rd n h m horizon s samples behind) (forecast_over rd' n h m horizon t samples behind)
    unfolding forecast_over
    forecast_simulates h m horizon s t r samples behind = directed_simulates m.forward h m horizon s t r samples behind

-- ---- two looks

finished_settles : (ending : Ending) (w : Walk) (t : Track) (b : Behind) → is_finished (outcome_by ending w t b) ≡ true → is_settled ending ≡ true
finished_settles Ending.Going w t b e = refl
finished_settles (Ending.Stops end) w t b e = refl
finished_settles (Ending.Need key) w t b e = e
finished_settles Ending.Stale w t b e = e

module _ (one two : TileKey → Look) (agree : Agree one two) (n : ℕ) where
  road_agrees : (trip : Trip) (m : Matched) (forward : Bool) (s : List TileKey) (bs : List ℕ) (samples behind : List ℤ)
      → is_finished (road_over (plain one) n trip m forward s bs samples behind).answer ≡ true
      → road_over (plain two) n trip m forward s bs samples behind ≡ road_over (plain one) n trip m forward s bs samples behind
  unfolding road_over
  road_agrees trip m forward s bs samples behind e = by _ _ _ _ (walk_agrees one two agree trip (budget n) _ 2000) e
    where
      by : (x y : Run (List TileKey)) (b : Behind) (behind : List ℤ) → (is_settled x.walk.ending ≡ true → y ≡ x)
          → is_finished (forecast_of x b behind).answer ≡ true → forecast_of y b behind ≡ forecast_of x b behind
      by x y b behind same e = ap (λ (r : Run (List TileKey)). forecast_of r b behind) (same (finished_settles x.walk.ending x.walk x.track b e))

  tile_agrees : (trip : Trip) (m : Matched) (forward : Bool) (s : List TileKey) (bs : List ℕ) (samples behind : List ℤ)
      → is_finished (tile_over (plain one) n trip m forward s bs samples behind).answer ≡ true
      → tile_over (plain two) n trip m forward s bs samples behind ≡ tile_over (plain one) n trip m forward s bs samples behind
  tile_agrees trip m forward s bs samples behind e = by (same_id (Layout.id_of bs) m.tile) (start_ok bs m) e
    where
      tile_by : (TileKey → Look) → Bool → Bool → Forecast (List TileKey)
      tile_by at same ok =
          cond same (cond ok (road_over (plain at) n trip m forward s bs samples behind) (nothing (plain at) n (Err Refusal.BadStart) s samples behind))
          (nothing (plain at) n (Ok Outcome.Rematch) s samples behind)

      by : (same ok : Bool) → is_finished (tile_by one same ok).answer ≡ true → tile_by two same ok ≡ tile_by one same ok
      by true true e = road_agrees trip m forward s bs samples behind e
      by true false e = refl
      by false ok e = refl

  start_agrees : (p q : Look) → (settled p ≡ true → q ≡ p)
      → (h : Header) (m : Matched) (forward : Bool) (horizon : Float) (s : List TileKey) (samples behind : List ℤ)
      → is_finished (start_look (plain one) n p h m forward horizon s samples behind).answer ≡ true
      → start_look (plain two) n q h m forward horizon s samples behind ≡ start_look (plain one) n p h m forward horizon s samples behind
  start_agrees (ready bs) q same h m forward horizon s samples behind e =
      rw (same refl) (tile_agrees (trip_of h m horizon) m forward ((plain one).found s m.tile.key) bs samples behind e)
  start_agrees missing q same h m forward horizon s samples behind e = rw (same refl)
  start_agrees absent q same h m forward horizon s samples behind e = absurd (true≢false (sym e))
  start_agrees stale q same h m forward horizon s samples behind e = absurd (true≢false (sym e))

  directed_agrees : (forward : Option Bool) (h : Header) (m : Matched) (horizon : Float) (s : List TileKey) (samples behind : List ℤ)
      → is_finished (directed_over (plain one) n forward h m horizon s samples behind).answer ≡ true
      → directed_over (plain two) n forward h m horizon s samples behind ≡ directed_over (plain one) n forward h m horizon s samples behind
  directed_agrees None h m horizon s samples behind e = refl
  directed_agrees (Some forward) h m horizon s samples behind e =
      start_agrees (one m.tile.key) (two m.tile.key) (agree m.tile.key) h m forward horizon s samples behind e

pub predict_agrees : PredictAgrees
unfolding forecast_over
predict_agrees one two agree n h m horizon samples behind e = directed_agrees one two agree n m.forward h m horizon [] samples behind e
