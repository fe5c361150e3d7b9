-- Every point that a road passes is a place of the grid, from a start that number 10 accepts, in a grid within the header's rules, over any reader of
-- bytes (`road_near`): so the point 25 m back, which a junction's heading goes by, is the Rust's plain sum at every junction (predict's `back_exact`).
use Prim.Native.Nat.{ℕ, ◌<◌}
use mathlib.Core.Path.{◌≡◌}
use mathlib.Core.Bool.{Bool, true}
use mathlib.Core.List.{List}
use lib.IntN.{ℤ}
use lib.Ieee.{Float}
use lib.ListN.{get_or}
use Rattle.pack.specs.Sector.{rules}
use Rattle.pack.specs.Grid.{in_grid}
use Rattle.pack.specs.declared.Header.{Header}
use Rattle.tile.specs.Layout as Layout
use Rattle.tile.specs.declared.Edge.{Edge}
use Rattle.cache.specs.Reader.{Reader}
use Rattle.matcher.specs.declared.Matched.{Matched}
use Rattle.predict.specs.Start.{start_ok, place}
use Rattle.predict.specs.Walk.{Run, walk_to}
use Rattle.predict.specs.Predict.{leg_of, trip_of, track_from}
use Rattle.predict.specs.declared.Trip.{Trip}
use Rattle.predict.specs.declared.outgoing.Leg.{Leg}
use Rattle.predict.proofs.Exact.{AllNear, Octets, place_near, first_near, walk_near}
use Rattle.engine_states.proofs.RoadBounds.{begun_of, road_grid}

module _ {S : Type 0} (rd : Reader S) (octets : Octets rd) (h : Header) (m : Matched) (horizon : Float) (forward : Bool)
    (bs : List ℕ) (bytes : (i : ℕ) → get_or bs i 0 < 256) (ok : rules h ≡ true) (is_in_grid : in_grid h m.tile.key ≡ true) (start : start_ok bs m ≡ true)
    (room : ℕ) (s : S) (samples : List ℤ) where
  abbrev edge : Edge
  edge = Layout.edge_of bs m.edge

  abbrev leg : Leg
  leg = leg_of h m edge forward

  abbrev trip : Trip
  trip = trip_of h m horizon

  -- the road before its first edge, as `road_over` begins it
  abbrev begun : Run S
  begun = begun_of m leg (place h bs edge m) s samples

  begun_near : AllNear begun.track.history
  unfolding track_from
  begun_near = first_near (place h bs edge m) (place_near h bs bytes m ok is_in_grid start edge)

  -- after each of its edges
  pub road_near : (n : ℕ) → AllNear (walk_to rd trip room begun n).track.history
  road_near n = walk_near rd octets trip room ok begun (road_grid rd trip room m leg (place h bs edge m) s samples is_in_grid) begun_near n
