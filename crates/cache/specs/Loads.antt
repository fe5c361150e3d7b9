-- One step of a load: `cache.rs`, `load`, with its read answered. `next` says which read it is: the tile's directory entry, or the next
-- chunk of the load that is under way. On a failure the load and its run are dropped and the arena is untouched; a bad entry fails with 4.
-- A chunk writes its own bytes of the arena and no others.
use Rattle.std.specs.Prelude.{Option, Some, None, Result, Ok, Err}
use Rattle.refusal.specs.declared.Refusal.{Refusal}
use Rattle.std.specs.Prelude.{ℕ, ◌+◌, ◌-◌, ◌*◌, Bool, true, false, cond, List, [], ◌∷◌, length, take, drop, ◌==◌, nat_le, nat_lt, slice_set}
use Rattle.std.proofs.Math.Seq.{paste}
use Rattle.pack.specs.Bytes.{byte_at}
use Rattle.pack.specs.Grid.{in_grid, entry_of, locate_of}
use Rattle.pack.specs.declared.TileKey.{TileKey}
use Rattle.pack.specs.declared.Header.{Header}
use Rattle.cache.specs.declared.Slot.{Slot}
use Rattle.cache.specs.declared.Pages.{Pages}
use Rattle.cache.specs.Runs.{slot_at}
use Rattle.cache.specs.Evict.{evicted, with_slots}
use Rattle.cache.specs.Begin.{begun}
use Rattle.cache.specs.declared.Cache.{Cache}
use Rattle.cache.specs.declared.Loading.{Loading}
use Rattle.cache.specs.declared.Pending.{Pending}
use Rattle.cache.specs.declared.Progress.{Progress}
use Rattle.cache.specs.declared.Loaded.{Loaded}
use Rattle.cache.specs.declared.next.Next.{Next}
use Rattle.cache.specs.Keys.{forgotten}
use Rattle.cache.specs.Lookups.{passes, len_at, after, touched}

-- ---- the read

-- bytes of the next chunk: what is left, 2,048 at most
unfoldable pub chunk_len : Loading → ℕ
chunk_len l = cond (nat_lt (l.len - l.done) 2048) (l.len - l.done) 2048

-- where in the pack it stands
abbrev pub chunk_offset : Loading → ℕ
chunk_offset l = l.offset + l.done

-- the read that the step n makes; a ready run that no longer passes is the late 12
abbrev pub fetched : Cache → Next → List ℕ → Header → TileKey → Result (Option (ℕ × ℕ)) Refusal
fetched c (Next.Ready i) arena h key = cond (passes arena i (len_at c i) key h.tile) (Ok None) (Err Refusal.BadState)
fetched c Next.Missing arena h key = Ok None
fetched c Next.NoPages arena h key = Ok None
fetched c Next.Entry arena h key = Ok (Some (entry_of h key, 8))
fetched c (Next.Chunk l) arena h key = Ok (Some (chunk_offset l, chunk_len l))

-- its length, 0 where none is made
abbrev pub read_len : Next → ℕ
read_len (Next.Ready i) = 0
read_len Next.Missing = 0
read_len Next.NoPages = 0
read_len Next.Entry = 8
read_len (Next.Chunk l) = chunk_len l

-- a read of n bytes is answered by n bytes with failure 0, or by failure 1 or 2; where no read is made, by failure 0 and no bytes
abbrev pub fits : ℕ → ℕ → ℕ → Bool
fits n failure len = cond (failure == 0) (len == n) (cond (nat_lt 2 failure) false (nat_lt 0 n))

-- towards a key outside the grid no read is made
abbrev pub takes : Next → Header → TileKey → ℕ → ℕ → Bool
takes n h key failure len = cond (in_grid h key) (fits (read_len n) failure len) (fits 0 failure len)

-- ---- what a step leaves: its answer, the state and the arena

pub record After : Type 0 where
  pub answer : Result Progress Refusal
  pub cache : Cache
  pub arena : List ℕ

abbrev pub told : After → Loaded
told a = record { answer = a.answer; cache = a.cache }

abbrev pub over : Loaded → List ℕ → After
over r arena = record { answer = r.answer; cache = r.cache; arena = arena }

abbrev pub refused : Cache → Refusal → Loaded
refused c e = record { answer = Err e; cache = c }

-- the refusal of a read that failed: its number is the failure's, 1 or 2
abbrev pub missed : ℕ → Refusal
missed failure = cond (failure == 1) Refusal.Media Refusal.PastPack

abbrev pub failed : Cache → Refusal → Loaded
failed c e = record { answer = Ok (Progress.Failed e); cache = c }

abbrev pub done : Cache → Loaded
done c = record { answer = Ok Progress.Done; cache = c }

abbrev pub more : Cache → Loaded
more c = record { answer = Ok Progress.More; cache = c }

-- ---- changes of the state

-- an open fetch of an entry or a chunk ends with the step that does its work; the header's stays
abbrev pub withdrawn : Pending → Pending
withdrawn Pending.Nothing = Pending.Nothing
withdrawn Pending.Header = Pending.Header
withdrawn (Pending.Entry key) = Pending.Nothing
withdrawn Pending.Chunk = Pending.Nothing

-- other pages and another load
unfoldable pub moved : Cache → Pages → Option Loading → Cache
moved c g loading = record { pages = g; missing = c.missing; loading = loading; pending = withdrawn c.pending; loads = c.loads }

-- a key known missing from now on
unfoldable pub forgot : Cache → TileKey → Cache
forgot c key = record {
  pages = c.pages;
  missing = forgotten c.missing key;
  loading = c.loading;
  pending = withdrawn c.pending;
  loads = c.loads;
}

abbrev pub without_run : Option Loading → Pages → Pages
without_run None g = g
without_run (Some l) g = evicted 1 l.slot g

-- the load, if there is one, and its run dropped
unfoldable pub dropped : Cache → Cache
dropped c = moved c (without_run c.loading c.pages) None

-- ---- the entry came

-- the first eight bytes of an answer, 0 where it is shorter
abbrev pub entry_bytes : List ℕ → List ℕ
entry_bytes bs =
    byte_at bs 0 ∷ byte_at bs 1 ∷ byte_at bs 2 ∷ byte_at bs 3 ∷ byte_at bs 4 ∷ byte_at bs 5 ∷ byte_at bs 6 ∷ byte_at bs 7 ∷ []

abbrev pub new_load : TileKey → ℕ → ℕ → ℕ → Loading
new_load key slot offset len = record { key = key; slot = slot; offset = offset; len = len; done = 0 }

abbrev pub began_at : Option ℕ → Cache → Pages → TileKey → ℕ → ℕ → Loaded
began_at None c g key offset len = done (forgot c key)
began_at (Some slot) c g key offset len = more (moved c g (Some (new_load key slot offset len)))

-- the load begins; the key is missing where the tile has more than 49,152 bytes or no run of pages is long enough
unfoldable pub began : Cache → TileKey → ℕ → ℕ → Loaded
began c key offset len =
    let b = begun c.pages key len in cond (nat_lt 49152 len) (done (forgot c key)) (began_at b.at c b.pages key offset len)

-- length 0: no tile, so missing; a bad entry: 4
abbrev pub located : Result (Option (ℕ × ℕ)) Refusal → Cache → TileKey → Loaded
located (Ok None) c key = done (forgot c key)
located (Err e) c key = failed c e
located (Ok (Some (offset, len))) c key = began c key offset len

-- another tile's load is dropped first, whatever the answer is
unfoldable pub entry_step : Cache → Header → TileKey → ℕ → List ℕ → Loaded
entry_step c h key failure bs = cond (failure == 0) (located (locate_of h bs) (dropped c) key) (failed (dropped c) (missed failure))

-- ---- a chunk came

-- the bytes written into the run from page `slot` on, `done` bytes into it; nothing where they would pass the arena's end, which in a
-- state that 12 does not name they never do
unfoldable pub put : List ℕ → ℕ → ℕ → List ℕ → List ℕ
put arena slot done bs =
    cond (nat_le (slot * 8192 + done + length bs) (length arena)) (paste arena (slot * 8192 + done) bs (length bs)) arena

-- the slot of a tile that is ready
abbrev pub ready_slot : Slot → Slot
ready_slot s = record { key = s.key; len = s.len; ready = true; part = s.part }

abbrev pub with_ready : Pages → ℕ → Pages
with_ready g i = with_slots (slice_set g.slots i (ready_slot (slot_at g.slots i))) g

abbrev pub counted : Cache → Cache
counted c = record { pages = c.pages; missing = c.missing; loading = c.loading; pending = c.pending; loads = after c.loads }

-- the load's tile ready, the most recently used, and counted
unfoldable pub readied : Cache → Loading → Cache
readied c l = counted (touched (moved c (with_ready c.pages l.slot) None) l.slot)

-- the last chunk came: ready if the tile passes, missing if not
unfoldable pub ended : Cache → List ℕ → Loading → ℕ → Cache
ended c arena l size = cond (passes arena l.slot l.len l.key size) (readied c l) (forgot (dropped c) l.key)

-- the load with `come` bytes of its tile
unfoldable pub further : Cache → Loading → ℕ → Cache
further c l come =
    moved c c.pages (Some (record { key = l.key; slot = l.slot; offset = l.offset; len = l.len; done = come }))

abbrev pub chunk_came : Cache → Loading → List ℕ → ℕ → ℕ → After
chunk_came c l arena size come =
    cond (nat_lt come l.len) (over (more (further c l come)) arena) (over (done (ended c arena l size)) arena)

unfoldable pub chunk_step : Cache → Loading → List ℕ → ℕ → ℕ → List ℕ → After
chunk_step c l arena size failure bs =
    cond (failure == 0) (chunk_came c l (put arena l.slot l.done bs) size (l.done + chunk_len l)) (over (failed (dropped c) (missed failure)) arena)

-- ---- the step

-- the tile is ready: its run checked again, and the most recently used
abbrev pub ready_step : Cache → ℕ → List ℕ → TileKey → ℕ → Loaded
ready_step c i arena key size = cond (passes arena i (len_at c i) key size) (done (touched c i)) (refused c Refusal.BadState)

abbrev pub stepped : Cache → Next → List ℕ → Header → TileKey → ℕ → List ℕ → After
stepped c (Next.Ready i) arena h key failure bs = over (ready_step c i arena key h.tile) arena
stepped c Next.Missing arena h key failure bs = over (done c) arena
stepped c Next.NoPages arena h key failure bs = over (done (forgot c key)) arena
stepped c Next.Entry arena h key failure bs = over (entry_step c h key failure bs) arena
stepped c (Next.Chunk l) arena h key failure bs = chunk_step c l arena h.tile failure bs

-- ---- the step without a read: this restates private code

-- a load that has all of its tile is checked; any other is to be read first
abbrev pub chunk_unread : Cache → Loading → List ℕ → ℕ → Loaded
chunk_unread c l arena size = cond (nat_le l.len l.done) (done (ended c arena l size)) (refused c Refusal.NotAsked)

abbrev pub unread_step : Cache → Next → List ℕ → TileKey → ℕ → Loaded
unread_step c (Next.Ready i) arena key size = ready_step c i arena key size
unread_step c Next.Missing arena key size = done c
unread_step c Next.NoPages arena key size = done (forgot c key)
unread_step c Next.Entry arena key size = refused c Refusal.NotAsked
unread_step c (Next.Chunk l) arena key size = chunk_unread c l arena size

-- ---- the step over a lent pack

-- n bytes of the pack from `offset` on
abbrev pub pack_bytes : List ℕ → ℕ → ℕ → List ℕ
pack_bytes pack offset n = take n (drop offset pack)

abbrev pub entry_from : Cache → Header → TileKey → List ℕ → Loaded
entry_from c h key pack =
    cond (nat_le (entry_of h key + 8) (length pack)) (entry_step c h key 0 (pack_bytes pack (entry_of h key) 8)) (entry_step c h key 2 [])

abbrev pub chunk_from : Cache → Loading → List ℕ → ℕ → List ℕ → After
chunk_from c l arena size pack =
    cond (nat_le (chunk_offset l + chunk_len l) (length pack)) (chunk_step c l arena size 0 (pack_bytes pack (chunk_offset l) (chunk_len l)))
    (chunk_step c l arena size 2 [])

abbrev pub stepped_from : Cache → Next → List ℕ → Header → TileKey → List ℕ → After
stepped_from c (Next.Ready i) arena h key pack = over (ready_step c i arena key h.tile) arena
stepped_from c Next.Missing arena h key pack = over (done c) arena
stepped_from c Next.NoPages arena h key pack = over (done (forgot c key)) arena
stepped_from c Next.Entry arena h key pack = over (entry_from c h key pack) arena
stepped_from c (Next.Chunk l) arena h key pack = chunk_from c l arena h.tile pack
