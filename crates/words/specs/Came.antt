-- What the answer to a fetch leaves, by the parts that are put: this restates private code (`deliver.rt`), each as the engine's own definitions say it (`Deliver` of the engine).
use Rattle.refusal.specs.declared.Refusal.{Refusal}
use Rattle.std.specs.Prelude.{Option, Some, None, Result, Ok, Err, ℕ, ◌+◌, Bool, cond, ◌&&◌, List, [], length, ◌==◌, nat_lt}
use Rattle.pack.specs.Grid.{locate_of}
use Rattle.pack.specs.declared.Header.{Header}
use Rattle.pack.specs.declared.TileKey.{TileKey}
use Rattle.cache.specs.Begin.{replaced}
use Rattle.cache.specs.Calls.{load_tested}
use Rattle.cache.specs.Loads.{chunk_len, told, new_load}
use Rattle.cache.specs.Runs.{span}
use Rattle.cache.specs.Victim.{victim}
use Rattle.cache.specs.declared.Cache.{Cache}
use Rattle.cache.specs.declared.Loading.{Loading}
use Rattle.cache.specs.declared.Pages.{Pages}
use Rattle.cache.specs.declared.Pending.TheVariants as Pending
use Rattle.engine.specs.Deliver.{with_pending, failing, needless, loaded}
use Rattle.engine.specs.Work.{counted, ended, with_due}
use Rattle.engine.specs.declared.Engine.{Engine}
use Rattle.engine.specs.declared.Phase.{Phase}
use Rattle.engine.specs.declared.Status.TheVariants as Status
use Rattle.engine.specs.declared.Stepped.{Stepped}

-- the pack in another phase, with no fetch open and so many failures
abbrev pub phased : Engine → Phase → Header → ℕ → Engine
phased e phase h failures = record {
  shared = record { phase = phase; header = h; cache = with_pending e.shared.cache Pending.Nothing };
  follower = failing e.follower failures;
}

abbrev pub done : Engine → Cache → Engine
done e c = (ended e c (failing (with_due (counted e.follower) (needless e.follower.due)) 0) (Ok Status.Working)).engine

abbrev pub more : Engine → Cache → Engine
more e c = (ended e c (counted e.follower) (Ok Status.Working)).engine

-- the load with so many bytes of its tile, and no fetch open
abbrev pub load_with : Loading → ℕ → Loading
load_with l come = record { key = l.key; slot = l.slot; offset = l.offset; len = l.len; done = come }

abbrev pub further_cache : Cache → Loading → ℕ → Cache
further_cache c l come = record {
  pages = c.pages;
  missing = c.missing;
  loading = Some (load_with l come);
  pending = Pending.Nothing;
  loads = c.loads;
}

abbrev pub further : Engine → Loading → ℕ → Engine
further e l come = more e (further_cache e.shared.cache l come)

-- a chunk's bytes, which leave more to come
abbrev pub is_more : Loading → ℕ → ℕ → Bool
is_more l failure len = failure == 0 && (len == chunk_len l && nat_lt (l.done + chunk_len l) l.len)

-- the tile that is needed, settled without a read
abbrev pub settled : Engine → List ℕ → TileKey → Stepped
settled e arena key = loaded e (told (load_tested e.shared.cache arena e.shared.header key 0 []))

-- ---- an entry that begins a load at once: nothing else is being loaded, and there is room for the tile

abbrev pub with_pages : Engine → Pages → Engine
with_pages e g = record {
  shared = record {
    phase = e.shared.phase;
    header = e.shared.header;
    cache = record {
      pages = g;
      missing = e.shared.cache.missing;
      loading = e.shared.cache.loading;
      pending = e.shared.cache.pending;
      loads = e.shared.cache.loads;
    };
  };
  follower = e.follower;
}

abbrev pub begins_in : Option ℕ → TileKey → ℕ → ℕ → Option (TileKey × ℕ × ℕ × ℕ)
begins_in None key offset len = None
begins_in (Some slot) key offset len = Some (key, slot, offset, len)

abbrev pub begins_at : Engine → TileKey → ℕ → ℕ → Option (TileKey × ℕ × ℕ × ℕ)
begins_at e key offset len = cond (nat_lt 49152 len) None (begins_in (victim e.shared.cache.pages (span len)) key offset len)

abbrev pub begins_by : Result (Option (ℕ × ℕ)) Refusal → Engine → TileKey → Option (TileKey × ℕ × ℕ × ℕ)
begins_by (Ok None) e key = None
begins_by (Err refusal) e key = None
begins_by (Ok (Some (offset, len))) e key = begins_at e key offset len

abbrev pub begins_for : Option TileKey → Engine → List ℕ → Option (TileKey × ℕ × ℕ × ℕ)
begins_for None e bs = None
begins_for (Some key) e bs = begins_by (locate_of e.shared.header bs) e key

abbrev pub begins_over : Option Loading → Engine → List ℕ → Option (TileKey × ℕ × ℕ × ℕ)
begins_over None e bs = begins_for e.follower.due.need e bs
begins_over (Some l) e bs = None

unfoldable pub begins : Engine → ℕ → List ℕ → Option (TileKey × ℕ × ℕ × ℕ)
begins e failure bs = cond (failure == 0 && length bs == 8) (begins_over e.shared.cache.loading e bs) None

abbrev pub begun_cache : Cache → TileKey → ℕ → ℕ → ℕ → Cache
begun_cache c key slot offset len = record {
  pages = replaced c.pages slot key len;
  missing = c.missing;
  loading = Some (new_load key slot offset len);
  pending = Pending.Nothing;
  loads = c.loads;
}

abbrev pub begun : Engine → TileKey → ℕ → ℕ → ℕ → Engine
begun e key slot offset len = more e (begun_cache e.shared.cache key slot offset len)
