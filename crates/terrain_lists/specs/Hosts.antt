-- What crate direct claims of lists, of every list of calls through C, as the list that it is; and what a refused call of a part leaves.
use Rattle.std.specs.Prelude.{ℕ, ◌≡◌, ◌≢◌, List, ℤ, Float}
use Rattle.pack.specs.declared.Header.{Header}
use Rattle.pack.specs.declared.TileKey.{TileKey}
use Rattle.geo.specs.declared.Point.{Point}
use Rattle.terrain.specs.Parts as Parts
use Rattle.terrain.specs.Roads as Roads
use Rattle.terrain.specs.declared.host.MatchTold.{MatchTold}
use Rattle.terrain.specs.declared.roads.TerrainHeading.{TerrainHeading}
use Rattle.direct.specs.Claims.{Safe, Open, AllFair, tolds, shows, made_of}
use Rattle.direct.specs.Direct.{directly, new_direct, direct_shows}
use Rattle.direct.specs.Published.{Read, read_of}
use Rattle.direct.specs.Story.{after}
use Rattle.direct.specs.Lists.{World, start, Along}
use Rattle.terrain_lists.specs.Calls.{HostCall, calls_in, pages_in}

-- the world of `terrain_new`
abbrev pub begin : List ℕ → Float → World
begin arena horizon = start (pages_in arena) horizon arena

-- of the engine and the arena that the calls leave, by `WordsList`
pub record HostClaims : Type 0 where
  pub safe : (arena : List ℕ) (horizon : Float) (cs : List HostCall) → Along Safe (calls_in cs) (begin arena horizon)
  -- the road that `terrain_ahead` then tells
  pub read : (arena : List ℕ) (horizon : Float) (cs : List HostCall)
      → Read (shows (calls_in cs) (begin arena horizon)) (read_of (after (calls_in cs) (begin arena horizon)))
  pub direct : (arena : List ℕ) (horizon : Float) (cs : List HostCall) (P : List ℕ) → AllFair P (calls_in cs) (begin arena horizon)
      → direct_shows (directly (pages_in arena)) (made_of (pages_in arena) horizon) P (calls_in cs) (tolds (calls_in cs) (begin arena horizon)) new_direct
      ≡ shows (calls_in cs) (begin arena horizon)
  -- the arena always holds its pages: they are counted by it
  pub accepted : (arena : List ℕ) (horizon : Float) (cs : List HostCall) (P : List ℕ) → AllFair P (calls_in cs) (begin arena horizon)
      → Along Open (calls_in cs) (begin arena horizon)

-- A refused call of a part leaves the engine's words and the arena, and `update` the matcher's words too. A road that is refused with 10 has moved clock
-- and ages.
pub record PartsKeep : Type 0 where
  pub get : (ws arena : List ℕ) (h : Header) (key : TileKey) → (Parts.lookup_out (Parts.get ws arena h key).answer).lookup ≡ 3
      → Parts.after ws (Parts.get ws arena h key).cache ≡ ws
  pub clear : (ws arena : List ℕ) → Parts.clearing_out (Parts.clear ws arena).answer ≢ 0 → Parts.after ws (Parts.clear ws arena).cache ≡ ws
  pub load : (ws arena : List ℕ) (h : Header) (key : TileKey) (failure : ℕ) (bs : List ℕ)
      → (Parts.progress_out (Parts.load ws arena h key failure bs).answer).progress ≡ 3
      → (Parts.after ws (Parts.load ws arena h key failure bs).cache ≡ ws) × ((Parts.load ws arena h key failure bs).arena ≡ arena)
  pub load_from : (ws arena : List ℕ) (h : Header) (key : TileKey) (Q : List ℕ)
      → (Parts.progress_out (Parts.load_from ws arena h key Q).answer).progress ≡ 3
      → (Parts.after ws (Parts.load_from ws arena h key Q).cache ≡ ws) × ((Parts.load_from ws arena h key Q).arena ≡ arena)
  pub update : (ws arena ms : List ℕ) (h : Header) (p : Point) (heading : TerrainHeading)
      → (Roads.updated_out (Roads.update ms ws arena h p heading).answer).outcome ≡ 3
      → (Roads.engine_after ms ws arena h p heading ≡ ws) × (Roads.matcher_after ms ws arena h p heading ≡ ms)
  pub predict : (ws arena : List ℕ) (h : Header) (start : MatchTold) (horizon : Float) (samples behind : List ℤ)
      → (Roads.predicted_out (Roads.predict ws arena h start horizon samples behind).predicted.answer).outcome ≡ 3
      → (Roads.predicted_out (Roads.predict ws arena h start horizon samples behind).predicted.answer).number ≢ 10
      → Roads.predict_after ws arena h start horizon samples behind ≡ ws
