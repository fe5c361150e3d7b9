-- What `deliver_kept` asks for beside number 12's causes, that the cache has its 96 slots, can't be left out (`short_breaks`): number 12 doesn't
-- read how long the list of slots is, and in a shorter one the run that an entry begins is not written, so that its load has no run. In the code the
-- slots are an array of 96. The smallest such state has no slot and counts one page.
use Rattle.std.specs.Prelude.{Some, None}
use Prim.Native.Nat.{ℕ}
use mathlib.Core.Path.{◌≡◌, refl}
use mathlib.Core.Bool.{true, false}
use mathlib.Core.List.{List, [], ◌∷◌}
use lib.IntN.{pos}
use lib.ListN.{length}
use Rattle.pack.specs.Bytes.{u16_at, u32_at}
use Rattle.pack.specs.Grid.{locate_of}
use Rattle.pack.specs.Sector.{rules}
use Rattle.pack.specs.declared.Header.{Header}
use Rattle.pack.specs.declared.TileKey.{TileKey}
use Rattle.cache.specs.Evict.{fill, evicted_page, evicted}
use Rattle.cache.specs.Runs.{span, all_below}
use Rattle.cache.specs.Victim.{best_of}
use Rattle.geo.specs.Flat.{whole}
use Rattle.cache.specs.Keys.{in_ring, is_ready, ready_at}
use Rattle.cache.specs.Lookups.{lands_on, next_step}
use Rattle.cache.specs.Search.{lowest}
use Rattle.cache.specs.State.{tile_loads, state_ok}
use Rattle.cache.specs.declared.Cache.{Cache}
use Rattle.cache.specs.declared.Pending.TheVariants as Pending
use Rattle.cache.specs.Loads.{moved, dropped, began, entry_step}
use Rattle.matcher.specs.Calls as Matching
use Rattle.engine.specs.Fixes.{nothing_seen}
use Rattle.engine.specs.Publish.{nothing_ahead}
use Rattle.engine.specs.Calls as Calls
use Rattle.engine.specs.Deliver.{part_came, delivered}
use Rattle.engine.specs.State.{shared_ok, places_ok, engine_ok}
use Rattle.engine.specs.declared.Engine.{Engine}
use Rattle.engine.specs.declared.Phase.TheVariants as Phase

abbrev first : TileKey
first = record { row = 0; col = 0 }

-- one tile
abbrev one : Header
one = record {
  tile = 1;
  south = pos 0;
  west = pos 0;
  rows = 1;
  cols = 1;
  directory = 0;
  «data» = 8;
  total = 9;
  tiles = 1;
  created = 0;
  attribution_offset = 0;
  attribution_len = 0;
}

abbrev bare : Cache
bare = record {
  pages = record { slots = []; used = []; count = 1; clock = 0 };
  missing = record { keys = []; next = 0 };
  loading = None;
  pending = Pending.Entry first;
  loads = 0;
}

-- its entry is fetched
abbrev pub short : Engine
short = record {
  shared = record { phase = Phase.Ready; header = one; cache = bare };
  follower = record {
    sight = nothing_seen;
    matcher = Matching.reset;
    due = record { matching = false; road = false; last_road = None; need = Some first; reloads = 0 };
    ahead = nothing_ahead 0;
    failures = 0;
    horizon_m = whole 0;
    steps = 0;
  };
}

-- a byte from 8 on
abbrev pub entry : List ℕ
entry = 8 ∷ 0 ∷ 0 ∷ 0 ∷ 1 ∷ 0 ∷ 0 ∷ 0 ∷ []

pub short_ok : engine_ok short 8192 ≡ true
unfolding engine_ok shared_ok state_ok rules places_ok all_below lowest next_step lands_on in_ring ready_at is_ready nothing_ahead
short_ok = refl

pub short_breaks : (arena : List ℕ) → length arena ≡ 8192 → engine_ok (Calls.deliver short arena 0 entry).engine 8192 ≡ false
unfolding Calls.deliver delivered part_came engine_ok shared_ok state_ok rules places_ok all_below lowest next_step lands_on in_ring ready_at is_ready nothing_ahead
    entry_step dropped moved locate_of u32_at u16_at began span best_of evicted evicted_page fill tile_loads
short_breaks arena size = rw size
