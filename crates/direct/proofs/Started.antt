-- A road from a start that lies within the tile looked up for it ends neither with 6 nor with 10 (`road_started`). The idea: the tile's id is the
-- start's own, and what number 10 asks of a start is what a match within its tile has; beyond these two tests a road is one, or Need or 12.
use Rattle.refusal.specs.Refusal.{number_of}
use Rattle.refusal.specs.declared.Refusal.{Refusal}
use Rattle.std.specs.Prelude.{Result, Ok, Err}
use Rattle.std.proofs.Common.{Option, Some, None}
use Prim.Native.Nat.{ℕ}
use mathlib.Core.Path.{◌≡◌, refl, subst}
use mathlib.Core.Bool.{Bool, true}
use mathlib.Core.List.{List, []}
use native.Mathlib.Omega.{arith}
use lib.Ieee.{Float}
use lib.IntN.{ℤ, pos}
use borrow.Author.Tests.{lt-ltb, le-leb, eq-eqb}
use Rattle.pack.specs.declared.Header.{Header}
use Rattle.pack.specs.declared.TileKey.{TileKey}
use Rattle.tile.specs.Layout as Layout
use Rattle.tile.specs.declared.TileId.{TileId}
use Rattle.geo.specs.Flat.{whole}
use Rattle.cache.specs.Direct.{Look, ready, missing, absent, stale}
use Rattle.cache.specs.Reader.{plain}
use Rattle.matcher.specs.Score.{same_id}
use Rattle.matcher.specs.Within.{Within}
use Rattle.matcher.specs.declared.Matched.{Matched}
use Rattle.predict.specs.Samples.{pushed}
use Rattle.predict.specs.Start.{start_ok, place}
use Rattle.predict.specs.declared.Trip.{Trip}
use Rattle.predict.specs.declared.ridden.Behind.{Behind}
use Rattle.predict.specs.Meets.{budget}
use Rattle.predict.specs.declared.Ending.{Ending}
use Rattle.predict.specs.Walk.{Run, walk_over}
use Rattle.predict.specs.declared.Track.{Track}
use Rattle.predict.specs.declared.Walk.{Walk}
use Rattle.predict.specs.Predict.{leg_of, no_mark, track_from, walk_from, outcome_by, road_over, tile_over, trip_of, start_look, directed_over, forecast_over, predict_over}
use Rattle.predict.specs.declared.Outcome.{Outcome}

-- ---- the two tests of a start

same_self : (id : TileId) → same_id id id ≡ true
same_self id =
    rw (
      eq-eqb id.key.row id.key.row refl,
      eq-eqb id.key.col id.key.col refl,
      eq-eqb id.crc id.crc refl,
      eq-eqb id.edges id.edges refl,
    )

module _ (bs : List ℕ) (m : Matched) (within : Within bs m) where
  pub within_same : same_id (Layout.id_of bs) m.tile ≡ true
  within_same = rw within.tile (same_self (Layout.id_of bs))

  pub within_ok : start_ok bs m ≡ true
  unfolding start_ok
  within_ok =
      rw (
        lt-ltb m.edge (Layout.edges_of bs) within.edge,
        le-leb m.segment (Layout.edge_of bs m.edge).vertices within.segment,
        within.at_least,
        within.at_most,
        within.not_below,
        within.not_above,
      )

-- ---- the road

-- neither 6 nor 10
abbrev pub Started : Result Outcome Refusal → Type 0
Started (Ok (Outcome.Road p)) = Unit
Started (Ok (Outcome.Need key)) = Unit
Started (Ok Outcome.Rematch) = ⊥
Started (Err refusal) = number_of refusal ≡ 10 → ⊥

outcome_started : (ending : Ending) (w : Walk) (t : Track) (b : Behind) → Started (outcome_by ending w t b)
outcome_started Ending.Going w t b = tt
outcome_started (Ending.Stops end) w t b = tt
outcome_started (Ending.Need key) w t b = tt
outcome_started Ending.Stale w t b = λ e. omega (arith, e)

module _ (at : TileKey → Look) (n : ℕ) (h : Header) (m : Matched) (horizon : Float) (samples behind : List ℤ)
    (bs : List ℕ) (within : Within bs m) where
  walked_started : (trip : Trip) (forward : Bool) (keys : List TileKey) → Started (road_over (plain at) n trip m forward keys bs samples behind).answer
  unfolding road_over
  walked_started trip forward keys =
      let e = Layout.edge_of bs m.edge in
      let first = pushed no_mark samples (whole 0) (pos 0) in
      let t : Track = track_from (place trip.header bs e m) first.mark in
      let r : Run (List TileKey) = walk_over (plain at) trip (budget n) (walk_from m (leg_of trip.header m e forward)) t keys first.heights in
      outcome_started r.walk.ending r.walk r.track _

  tile_started : (trip : Trip) (forward : Bool) (keys : List TileKey) → Started (tile_over (plain at) n trip m forward keys bs samples behind).answer
  tile_started trip forward keys = rw (within_same bs m within, within_ok bs m within) (walked_started trip forward keys)

  look_started : (l : Look) → (l ≡ missing → ⊥) → ((cs : List ℕ) → l ≡ ready cs → cs ≡ bs) → (forward : Bool)
      → Started (start_look (plain at) n l h m forward horizon [] samples behind).answer
  look_started (ready cs) present same forward = rw (same cs refl) (tile_started (trip_of h m horizon) forward _)
  look_started missing present same forward = present refl
  look_started absent present same forward = tt
  look_started stale present same forward = λ e. omega (arith, e)

  module _ (present : at m.tile.key ≡ missing → ⊥) (same : (cs : List ℕ) → at m.tile.key ≡ ready cs → cs ≡ bs) where
    directed_started : (forward : Option Bool) → Started (directed_over (plain at) n forward h m horizon [] samples behind).answer
    directed_started None = tt
    directed_started (Some forward) = look_started (at m.tile.key) present same forward

    pub road_started : Started (predict_over at n h m horizon samples behind).answer
    unfolding forecast_over
    road_started = directed_started m.forward

    pub road_not_rematch : (predict_over at n h m horizon samples behind).answer ≡ Ok Outcome.Rematch → ⊥
    road_not_rematch e = subst Started e road_started

    pub road_start_fits : (predict_over at n h m horizon samples behind).answer ≡ Err Refusal.BadStart → ⊥
    road_start_fits e = subst Started e road_started refl
