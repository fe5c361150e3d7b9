-- Demand 3's theorem is not empty: a list of calls, computed from the definitions, in which its premises hold (`fair`), reads fail (`header_missed`,
-- `entry_missed`), a tile is evicted and loaded again (`answered`, `ready`, `evicted`), fixes come while a fetch is open, and a match and a road are
-- finished (`finished`) and read (`read`): so they are the direct engine's (`direct_finished`).
use Rattle.std.specs.Prelude.{None, Ok, ℕ, ◌≡◌, true, false, List, [], ◌∷◌, ◌++◌, ℤ, pos, negsuc, Float, take, replicate, Some}
use Rattle.std.specs.Float.{fin}
use Rattle.pack.specs.declared.Header.{Header}
use Rattle.pack.specs.declared.TileKey.{TileKey}
use Rattle.geo.specs.Flat as Flat
use Rattle.cache.specs.Lookups as Lookups
use Rattle.cache.specs.declared.Lookup.TheVariants as Lookup
use Rattle.cache.specs.declared.Progress.TheVariants as Progress
use Rattle.cache.specs.declared.look.Landing.TheVariants as Landing
use Rattle.cache_lists.specs.Lists as Cached
use Rattle.matcher.specs.declared.Matched.{Matched}
use Rattle.matcher.specs.declared.Matcher.{Matcher}
use Rattle.predict.specs.declared.End.TheVariants as End
use Rattle.engine.specs.declared.Fix.{Fix}
use Rattle.engine.specs.declared.Status.TheVariants as Status
use Rattle.direct.specs.Lists.{World, Call, fix, step, deliver, step_from, on_cache, Answer, taken, status, cached, exec, start}
use Rattle.direct.specs.Finished.{Shown, nothing, matched, published, Road}
use Rattle.direct.specs.Direct.{directly, new_direct, direct_shows}
use Rattle.direct.specs.Claims.{tolds, shows, AllFair, made_of}
use Rattle.direct.specs.Published.{read_of}
use Rattle.direct.specs.Story as Story

-- ---- the pack: one row of two tiles, of 10,000 millionths of a degree, at the equator

abbrev pub sector : List ℕ
sector =
    86 ∷ 65 ∷ 78 ∷ 65 ∷ 45 ∷ 84 ∷ 69 ∷ 82 ∷ 82 ∷ 65 ∷ 73 ∷ 78 ∷ 0 ∷ 0 ∷ 0 ∷ 0  -- "VANA-TERRAIN"
    ∷ 2 ∷ 0 ∷ 0 ∷ 0 ∷ 16 ∷ 39 ∷ 0 ∷ 0  -- version; tile size
    ∷ 0 ∷ 0 ∷ 0 ∷ 0 ∷ 0 ∷ 0 ∷ 0 ∷ 0 ∷ 1 ∷ 0 ∷ 2 ∷ 0  -- south and west; rows and columns
    ∷ 0 ∷ 2 ∷ 0 ∷ 0 ∷ 16 ∷ 2 ∷ 0 ∷ 0 ∷ 116 ∷ 2 ∷ 0 ∷ 0 ∷ 2 ∷ 0 ∷ 0 ∷ 0  -- directory at 512, data at 528, 628 in all; tiles
    ∷ (replicate 456 0 ++ (178 ∷ 11 ∷ 135 ∷ 5 ∷ []))  -- the CRC

-- 68 bytes at 528 and 32 at 596
abbrev pub directory : List ℕ
directory = 16 ∷ 2 ∷ 0 ∷ 0 ∷ 68 ∷ 0 ∷ 0 ∷ 0 ∷ 84 ∷ 2 ∷ 0 ∷ 0 ∷ 32 ∷ 0 ∷ 0 ∷ 0 ∷ []

-- one road, due east from (1000, 5000) to (9000, 5000), some 890 m that climb from 100 m to 110 m
abbrev pub road_tile : List ℕ
road_tile =
    86 ∷ 84 ∷ 1 ∷ 0 ∷ 0 ∷ 0 ∷ 0 ∷ 0 ∷ 2 ∷ 0 ∷ 1 ∷ 0 ∷ 0 ∷ 0 ∷ 0 ∷ 0  -- "VT", version, key (0, 0); nodes, edges, vertices
    ∷ 91 ∷ 178 ∷ 1 ∷ 0 ∷ 0 ∷ 0 ∷ 0 ∷ 0 ∷ 60 ∷ 71 ∷ 48 ∷ 207 ∷ 0 ∷ 0 ∷ 0 ∷ 0  -- lon_um; the CRC
    ∷ 232 ∷ 3 ∷ 136 ∷ 19 ∷ 184 ∷ 11 ∷ 0 ∷ 0 ∷ 40 ∷ 35 ∷ 136 ∷ 19 ∷ 234 ∷ 11 ∷ 1 ∷ 0  -- its nodes
    ∷ 0 ∷ 0 ∷ 1 ∷ 0 ∷ 0 ∷ 0 ∷ 1 ∷ 0 ∷ 0 ∷ 0 ∷ 0 ∷ 0 ∷ 0 ∷ 0 ∷ 3 ∷ 0 ∷ 0 ∷ 0 ∷ 0 ∷ 0  -- its entries and its edge
    ∷ []

-- no road
abbrev pub empty_tile : List ℕ
empty_tile =
    86 ∷ 84 ∷ 1 ∷ 0 ∷ 0 ∷ 0 ∷ 1 ∷ 0 ∷ 0 ∷ 0 ∷ 0 ∷ 0 ∷ 0 ∷ 0 ∷ 0 ∷ 0  -- "VT", version, key (0, 1)
    ∷ 91 ∷ 178 ∷ 1 ∷ 0 ∷ 0 ∷ 0 ∷ 0 ∷ 0 ∷ 130 ∷ 38 ∷ 214 ∷ 28 ∷ 0 ∷ 0 ∷ 0 ∷ 0  -- lon_um; the CRC
    ∷ []

abbrev pub pack : List ℕ
pack = sector ++ (directory ++ (road_tile ++ empty_tile))

abbrev pub header : Header
header = record {
  tile = 10000;
  south = pos 0;
  west = pos 0;
  rows = 1;
  cols = 2;
  directory = 512;
  «data» = 528;
  total = 628;
  tiles = 2;
  created = 0;
  attribution_offset = 0;
  attribution_len = 0;
}

abbrev pub road_key : TileKey
road_key = record { row = 0; col = 0 }

abbrev pub empty_key : TileKey
empty_key = record { row = 0; col = 1 }

-- ---- what is to be found

-- one page, and a horizon of 100 m
abbrev pub horizon : Float
horizon = Flat.whole 100

abbrev pub begin : World
begin = start 1 horizon (replicate 8192 0)

abbrev pub zero : Float
zero = fin false 0 (pos 0)

-- half way along the road, riding east
abbrev pub found : Matched
found = record {
  tile = record { key = road_key; crc = 3476047676; edges = 1 };
  edge = 0;
  segment = 0;
  fraction = fin false 1 (negsuc 0);
  forward = Some true;
  offset_m = zero;
  z_dm = pos 1050;
  class = 3;
  flags = 0;
  confidence = 100;
  ridden_m = zero;
}

-- 444.78 m from the road's start
abbrev pub matcher : Matcher
matcher = record { current = Some found; challenger = None; misses = 0; run_from_m = fin false 14574551 (negsuc 14) }

-- decimetres above the rider, every 20 m
abbrev pub heights : List ℤ
heights = pos 0 ∷ pos 2 ∷ pos 4 ∷ pos 6 ∷ pos 8 ∷ pos 11 ∷ []

abbrev pub road : Road
road = record {
  at_ms = 2000;
  matched = Some found;
  start_z_dm = pos 1050;
  len = 6;
  samples = heights;
  behind_len = 1;
  behind = pos 0 ∷ [];
  behind_m = zero;
  end = End.Horizon;
  end_m = horizon;
  confidence = 100;
}

-- ---- the calls

-- on the road
abbrev pub fix_at : ℕ → ℕ → Fix
fix_at lon at = record { lat = pos 5000; lon = pos lon; at_ms = at }

-- Failure 1 is a read that failed: the header's is made again, and so is the directory entry's. A fix comes while the header is fetched, and one
-- 22 m on while the tile is. Two direct calls load the other tile, which takes the one page; so the match has its tile loaded again
abbrev pub calls : List Call
calls =
    step ∷ deliver 1 [] ∷ step ∷ fix (fix_at 4800 1000) ∷ deliver 0 sector
    ∷ step ∷ step ∷ deliver 1 [] ∷ step_from pack ∷ step ∷ fix (fix_at 5000 2000) ∷ deliver 0 road_tile
    ∷ on_cache (Cached.get header road_key) ∷ on_cache (Cached.load_from header empty_key pack) ∷ on_cache (Cached.load_from header empty_key pack)
    ∷ on_cache (Cached.get header road_key)
    ∷ step ∷ step_from pack ∷ step_from pack ∷ step ∷ step ∷ step
    ∷ []

unfoldable pub answers : List Call → World → List Answer
answers [] w = []
answers (c ∷ cs) w = (exec c w).answer ∷ answers cs (exec c w).world

-- what the first n calls leave
abbrev pub after : ℕ → World
after n = Story.after (take n calls) begin

-- ---- what is finished

-- nothing by the first nineteen calls; then the match, the road, and nothing more
abbrev pub finishes : List Shown
finishes = replicate 19 nothing ++ (matched matcher ∷ published road ∷ nothing ∷ [])

-- ---- what is shown of it

pub record Witness : Type 0 where
  -- the tile stands in page 0 at the first `get`, and is gone at the second
  pub answered : answers calls begin
      ≡ status (Ok (Status.Fetch 0 512)) ∷ status (Ok Status.Working) ∷ status (Ok (Status.Fetch 0 512)) ∷ taken (Ok tt) ∷ status (Ok Status.Working)
      ∷ status (Ok Status.Working) ∷ status (Ok (Status.Fetch 512 8)) ∷ status (Ok Status.Working) ∷ status (Ok Status.Working) ∷ status (Ok (Status.Fetch 528 68)) ∷ taken (Ok tt) ∷ status (Ok Status.Working)
      ∷ cached (Cached.found (Ok (Lookup.Ready 0 68))) ∷ cached (Cached.stepped (Ok Progress.More)) ∷ cached (Cached.stepped (Ok Progress.Done))
      ∷ cached (Cached.found (Ok Lookup.Absent))
      ∷ status (Ok Status.Working) ∷ status (Ok Status.Working) ∷ status (Ok Status.Working) ∷ status (Ok Status.Working) ∷ status (Ok Status.Working) ∷ status (Ok Status.Idle)
      ∷ []
  pub finished : shows calls begin ≡ finishes
  -- a missed read of the header is counted, and one of the entry
  pub header_missed : (after 2).engine.follower.failures ≡ 1
  pub entry_missed : (after 8).engine.follower.failures ≡ 1
  pub ready : Lookups.lands_on (after 13).engine.shared.cache road_key ≡ Landing.At 0
  pub evicted : Lookups.lands_on (after 15).engine.shared.cache road_key ≡ Landing.Nothing
  -- the road that was finished stands published after the last call
  pub read : read_of (Story.after calls begin) ≡ road
  -- of each call in its order: a read that failed brings nothing, what is delivered is what the pack has there, the pack that is lent is the pack, and
  -- a header that is given is the pack's
  pub fair : AllFair pack calls begin
  -- so the direct engine finishes them
  pub direct_finished : direct_shows (directly 1) (made_of 1 horizon) pack calls (tolds calls begin) new_direct ≡ finishes
