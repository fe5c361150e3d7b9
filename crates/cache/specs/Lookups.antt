-- Lookups: `cache.rs`, `get` and `pages`, and what the next step towards a tile is. A ready run is handed out only if it still passes
-- `Tile::parse` (document 01, number 12: "a ready run looked up that no longer passes"). Order of refusals: 12, 9, then the late 12
-- (document 01: it "waits for its lookup"). Ready moves clock and age; nothing else does.
use Rattle.refusal.specs.Refusal.{number_of}
use Rattle.refusal.specs.declared.Refusal.{Refusal}
use Rattle.std.specs.Prelude.{Option, Some, None, Result, Ok, Err}
use Rattle.cache.specs.declared.Loading.{Loading}
use Rattle.std.specs.Prelude.{ℕ, ◌+◌, ◌*◌, ◌%◌, ◌^◌, Bool, cond, ◌&&◌, List, length, take, drop, ◌==◌, nat_le, slice_set}
use Rattle.pack.specs.declared.TileKey.{TileKey}
use Rattle.cache.specs.declared.Pages.{Pages}
use Rattle.cache.specs.Runs.{span, slot_at}
use Rattle.tile.specs.Parse as Parse
use Rattle.cache.specs.declared.Cache.{Cache}
use Rattle.cache.specs.declared.Lookup.{Lookup}
use Rattle.cache.specs.declared.Got.{Got}
use Rattle.cache.specs.declared.look.Landing.{Landing}
use Rattle.cache.specs.declared.next.Next.{Next}
use Rattle.cache.specs.Keys.{same_key, in_ring, ready_at}

-- ---- what a lookup lands on

abbrev pub landed_on : Option ℕ → Landing
landed_on (Some i) = Landing.At i
landed_on None = Landing.Nothing

-- the ring first, then the lowest ready run
unfoldable pub lands_on : Cache → TileKey → Landing
lands_on c key = cond (in_ring c.missing key) Landing.Missing (landed_on (ready_at c.pages key))

-- ---- the run

-- the bytes of a run: len of them from its first page on
abbrev pub run_bytes : List ℕ → ℕ → ℕ → List ℕ
run_bytes arena first len = take len (drop (first * 8192) arena)

abbrev pub accepts : List ℕ → TileKey → ℕ → Bool
accepts bs key size = Parse.accepts bs key size

-- the run lies in the arena and passes `Tile::parse` for its key
unfoldable pub passes : List ℕ → ℕ → ℕ → TileKey → ℕ → Bool
passes arena first len key size = nat_le (first * 8192 + len) (length arena) && accepts (run_bytes arena first len) key size

abbrev pub len_at : Cache → ℕ → ℕ
len_at c i = (slot_at c.pages.slots i).len

-- a clock or a counter one further, in 32 bits
abbrev pub after : ℕ → ℕ
after n = (n + 1) % 2 ^ 32

-- the run from page i on as the most recently used; clock and ages alone change
unfoldable pub touched : Cache → ℕ → Cache
touched c i = record {
  pages = record {
    slots = c.pages.slots;
    used = slice_set c.pages.used i (after c.pages.clock);
    count = c.pages.count;
    clock = after c.pages.clock;
  };
  missing = c.missing;
  loading = c.loading;
  pending = c.pending;
  loads = c.loads;
}

-- ---- get

abbrev pub got_ready : Bool → Cache → ℕ → Got
got_ready ok c i =
    cond ok (record { answer = Ok (Lookup.Ready i (len_at c i)); cache = touched c i }) (record { answer = Err Refusal.BadState; cache = c })

abbrev pub got_at : Landing → Cache → List ℕ → ℕ → TileKey → Got
got_at Landing.Missing c arena size key = record { answer = Ok Lookup.Missing; cache = c }
got_at Landing.Nothing c arena size key = record { answer = Ok Lookup.Absent; cache = c }
got_at (Landing.At i) c arena size key = got_ready (passes arena i (len_at c i) key size) c i

-- a lookup in a state that 12 does not name, of a key in the grid
unfoldable pub got : Cache → List ℕ → ℕ → TileKey → Got
got c arena size key = got_at (lands_on c key) c arena size key

-- ---- in two steps, for the crates above: what a lookup lands on, and the late check of it. Together they are what `got` answers (`checked-landed`)

abbrev pub landed_by : Landing → Cache → Lookup
landed_by Landing.Missing c = Lookup.Missing
landed_by Landing.Nothing c = Lookup.Absent
landed_by (Landing.At i) c = Lookup.Ready i (len_at c i)

unfoldable pub landed : Cache → TileKey → Lookup
landed c key = landed_by (lands_on c key) c

-- a refusal is its number here, of any number: the function is public, and `checked-landed` has an answer's refusal by its number
abbrev pub checked : Result Lookup ℕ → List ℕ → ℕ → TileKey → Result Lookup ℕ
checked (Ok (Lookup.Ready first len)) arena size key = cond (passes arena first len key size) (Ok (Lookup.Ready first len)) (Err 12)
checked (Ok Lookup.Missing) arena size key = Ok Lookup.Missing
checked (Ok Lookup.Absent) arena size key = Ok Lookup.Absent
checked (Err number) arena size key = Err number

-- an answer with its refusal's number in place of the refusal
abbrev pub by_number : {T : Type 0} → Result T Refusal → Result T ℕ
by_number (Ok v) = Ok v
by_number (Err refusal) = Err (number_of refusal)

-- ---- pages

-- pages of a ready tile, one for anything else; the ring is not asked
abbrev pub pages_at : Option ℕ → Pages → ℕ
pages_at (Some i) g = span (slot_at g.slots i).len
pages_at None g = 1

unfoldable pub pages_of : Pages → TileKey → ℕ
pages_of g key = pages_at (ready_at g key) g

-- ---- the next step towards a tile

-- a chunk where this tile is being loaded, else its directory entry
abbrev pub next_read : Option Loading → TileKey → Next
next_read None key = Next.Entry
next_read (Some l) key = cond (same_key l.key key) (Next.Chunk l) Next.Entry

abbrev pub next_at : Landing → Cache → TileKey → Next
next_at (Landing.At i) c key = Next.Ready i
next_at Landing.Missing c key = Next.Missing
next_at Landing.Nothing c key = cond (c.pages.count == 0) Next.NoPages (next_read c.loading key)

unfoldable pub next_step : Cache → TileKey → Next
next_step c key = next_at (lands_on c key) c key
