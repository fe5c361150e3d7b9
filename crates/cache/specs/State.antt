-- The empty state (`Cache::new`), and the states that number 12 names (document 01, "Refused", the cache's part), each cause by name:
-- page runs that overlap, pass the page count or lack a part, or a count above its array (`runs_ok` of Runs); a ring place past its
-- ring; a load without its run, or done not below its length; an open fetch that the state would not make; a header that `Header::parse`
-- would refuse; an arena shorter than its pages.
use Rattle.std.specs.Prelude.{Option, Some, None}
use Rattle.std.specs.Prelude.{ℕ, ◌*◌, ◌/◌, min, Bool, true, false, not, ◌&&◌, List, [], ◌∷◌, length, replicate, ◌==◌, nat_le, nat_lt}
use Rattle.pack.specs.Sector.{all_of, rules}
use Rattle.pack.specs.Grid.{in_grid}
use Rattle.pack.specs.declared.TileKey.{TileKey}
use Rattle.pack.specs.declared.Header.{Header}
use Rattle.cache.specs.declared.Slot.{Slot}
use Rattle.cache.specs.declared.Pages.{Pages}
use Rattle.cache.specs.Runs as Runs
use Rattle.cache.specs.declared.Cache.{Cache}
use Rattle.cache.specs.declared.Loading.{Loading}
use Rattle.cache.specs.declared.Pending.{Pending}
use Rattle.cache.specs.declared.next.Next.{Next}
use Rattle.cache.specs.Keys as Keys
use Rattle.cache.specs.Lookups.{next_step}

-- ---- empty

abbrev pub empty_slot : Slot
empty_slot = Runs.empty_slot

abbrev pub empty_place : Option TileKey
empty_place = Keys.empty_place

-- a cache of n pages with nothing in it
unfoldable pub fresh : ℕ → Cache
fresh n = record {
  pages = record { slots = replicate 96 empty_slot; used = replicate 96 0; count = n; clock = 0 };
  missing = record { keys = replicate 64 empty_place; next = 0 };
  loading = None;
  pending = Pending.Nothing;
  loads = 0;
}

-- as many pages as the arena has, up to 96
abbrev pub new : List ℕ → Cache
new arena = fresh (min (length arena / 8192) 96)

-- slots, ring, load and the open fetch go; ages, clock, the ring's next place and the count of loads stay
unfoldable pub cleared : Cache → Cache
cleared c = record {
  pages = record { slots = replicate 96 empty_slot; used = c.pages.used; count = c.pages.count; clock = c.pages.clock };
  missing = record { keys = replicate 64 empty_place; next = c.missing.next };
  loading = None;
  pending = Pending.Nothing;
  loads = c.loads;
}

-- ---- the causes of number 12

abbrev pub runs_ok : Cache → Bool
runs_ok c = Runs.runs_ok c.pages

abbrev pub ring_ok : Cache → Bool
ring_ok c = nat_lt c.missing.next 64

-- the load has its run, with the load's key and length, and has not all of it. A run that is ready has its tile and is no load's: a load there
-- is one without its run
unfoldable pub tile_loads : Pages → Loading → Bool
tile_loads g l =
    let s = Runs.slot_at g.slots l.slot in
    Runs.is_run (Runs.kind_of s)
    && (Keys.holds s.key l.key && (s.len == l.len && (not s.ready && nat_lt l.done l.len)))

abbrev pub loads_ok : Pages → Option Loading → Bool
loads_ok g None = true
loads_ok g (Some l) = tile_loads g l

abbrev pub load_ok : Cache → Bool
load_ok c = loads_ok c.pages c.loading

abbrev pub is_entry : Next → Bool
is_entry Next.Entry = true
is_entry (Next.Chunk l) = false
is_entry (Next.Ready i) = false
is_entry Next.Missing = false
is_entry Next.NoPages = false

abbrev pub is_chunk : Next → Bool
is_chunk (Next.Chunk l) = true
is_chunk Next.Entry = false
is_chunk (Next.Ready i) = false
is_chunk Next.Missing = false
is_chunk Next.NoPages = false

-- an entry is fetched where the next step towards its key reads it
abbrev pub wants_entry : Cache → TileKey → Bool
wants_entry c key = is_entry (next_step c key)

-- a chunk is fetched where the next step towards the load's key reads one
abbrev pub wants_chunk_of : Option Loading → Cache → Bool
wants_chunk_of None c = false
wants_chunk_of (Some l) c = is_chunk (next_step c l.key)

abbrev pub wants_chunk : Cache → Bool
wants_chunk c = wants_chunk_of c.loading c

abbrev pub pending_fits : Pending → Cache → Bool
pending_fits Pending.Nothing c = true
pending_fits Pending.Header c = true
pending_fits (Pending.Entry key) c = wants_entry c key
pending_fits Pending.Chunk c = wants_chunk c

abbrev pub pending_ok : Cache → Bool
pending_ok c = pending_fits c.pending c

-- the state's own
unfoldable pub state_ok : Cache → Bool
state_ok c = all_of (runs_ok c ∷ ring_ok c ∷ load_ok c ∷ pending_ok c ∷ [])

-- the arena holds the pages
abbrev pub arena_ok : Cache → ℕ → Bool
arena_ok c size = nat_le (c.pages.count * 8192) size

-- of a call that is given no header, and an arena of `size` bytes
unfoldable pub lent_ok : Cache → ℕ → Bool
lent_ok c size = state_ok c && arena_ok c size

-- an open entry is of a key in the grid of the header that the call is given
abbrev pub entry_in : Pending → Header → Bool
entry_in Pending.Nothing h = true
entry_in Pending.Header h = true
entry_in (Pending.Entry key) h = in_grid h key
entry_in Pending.Chunk h = true

-- of a call that is given a header too
unfoldable pub cache_ok : Cache → Header → ℕ → Bool
cache_ok c h size = state_ok c && (rules h && (entry_in c.pending h && arena_ok c size))
