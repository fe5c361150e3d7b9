-- What is claimed of every list of calls on the cache, from a fresh one of any page count over any arena: demand 3, the part that concerns
-- memory. `Safe` is claimed with no premise at all; `Fair` are demand 3's premises for one pack, and `SameAs` and `Open` are claimed under
-- them.
use Rattle.refusal.specs.declared.Refusal.{Refusal}
use Rattle.std.specs.Prelude.{Option, Some, None, Result, Err}
use Rattle.refusal.specs.Refusal.{number_of_result}
use Rattle.cache.specs.declared.Loading.{Loading}
use Rattle.std.specs.Prelude.{Ok, ℕ, ◌+◌, ◌*◌, ◌<◌, ◌≤◌, ◌≡◌, true, List, [], ◌∷◌, ◌⊎◌, leb, length, take, drop, get_or}
use Rattle.pack.specs.Sector.{parse}
use Rattle.pack.specs.declared.TileKey.{TileKey}
use Rattle.pack.specs.declared.Header.{Header}
use Rattle.cache.specs.Runs.{run, slot_at, kind_at, end_of}
use Rattle.tile.specs.Parse.{accepts}
use Rattle.cache.specs.declared.Cache.{Cache}
use Rattle.cache.specs.declared.Slot.{Slot}
use Rattle.cache.specs.declared.Lookup.{Lookup}
use Rattle.cache.specs.declared.look.Landing.TheVariants as Landing
use Rattle.cache.specs.Lookups.{lands_on, run_bytes}
use Rattle.cache.specs.Direct.{Look, ready, missing, direct}
use Rattle.cache.specs.declared.Progress.{Progress}
use Rattle.cache.specs.Loads.{chunk_len}
use Rattle.cache.specs.Calls as Loaded
use Rattle.cache_lists.specs.Lists.{World, Call, capacity, loads, pages, get, fetch, load, load_from, clear, Answer, counted, found, asked, stepped, cleared, exec, start, Along}

-- document 01's number of a refusal, 0 for any other answer: a step of a load that failed is none
abbrev pub number : Answer → ℕ
number (counted a) = number_of_result a
number (found a) = number_of_result a
number (asked a) = number_of_result a
number (stepped a) = number_of_result a
number (cleared a) = number_of_result a

-- ---- with no premise

abbrev pub LoadsAt : Option Loading → ℕ → Type 0
LoadsAt None h = ⊥
LoadsAt (Some l) h = l.slot ≡ h

-- document 01: "A run is live while its tile is ready or its load unfinished"; the run from page h on
abbrev pub Live : Cache → ℕ → Type 0
Live c h = ((slot_at c.pages.slots h).ready ≡ true) ⊎ LoadsAt c.loading h

-- no two live runs overlap, and each lies within the pages
pub record Apart (c : Cache) : Type 0 where
  pub within : (h : ℕ) → Live c h → end_of c.pages.slots h ≤ c.pages.count
  pub apart : (h1 h2 : ℕ) → Live c h1 → Live c h2 → h1 < h2 → end_of c.pages.slots h1 ≤ h2

-- a run that a lookup hands out lies in the arena and passes `Tile::parse` for its key
pub record Passed (arena : List ℕ) (h : Header) (key : TileKey) (first len : ℕ) : Type 0 where
  pub inside : first * 8192 + len ≤ length arena
  pub accepted : accepts (run_bytes arena first len) key h.tile ≡ true

abbrev pub HandedOut : World → Call → Type 0
HandedOut w (get h key) = (first len : ℕ) → (exec (get h key) w).answer ≡ found (Ok (Lookup.Ready first len)) → Passed w.arena h key first len
HandedOut w capacity = Unit
HandedOut w loads = Unit
HandedOut w (pages h key) = Unit
HandedOut w (fetch h key) = Unit
HandedOut w (load h key failure bs) = Unit
HandedOut w (load_from h key pack) = Unit
HandedOut w clear = Unit

-- a read: offset and length
pub record Read : Type 0 where
  pub offset : ℕ
  pub len : ℕ

abbrev pub reads_of : Result (Option (ℕ × ℕ)) Refusal → List Read
reads_of (Ok None) = []
reads_of (Err e) = []
reads_of (Ok (Some (offset, len))) = record { offset = offset; len = len } ∷ []

-- the reads that a call asks for, is given the answer of, or makes of a lent pack
abbrev pub reads : World → Call → List Read
reads w (fetch h key) = reads_of (Loaded.fetch w.cache w.arena h key)
reads w (load h key failure bs) = reads_of (Loaded.fetch w.cache w.arena h key)
reads w (load_from h key pack) = reads_of (Loaded.fetch w.cache w.arena h key)
reads w (get h key) = []
reads w capacity = []
reads w loads = []
reads w (pages h key) = []
reads w clear = []

-- how many bytes they have in all
abbrev pub bytes_of : List Read → ℕ
bytes_of [] = 0
bytes_of (r ∷ rs) = r.len + bytes_of rs

-- bytes that a `load` takes are those of its reads: with any other number of them it is refused
abbrev pub TakesOnly : World → Call → Type 0
TakesOnly w (load h key failure bs) =
    failure ≡ 0 → number (exec (load h key failure bs) w).answer ≡ 0 → length bs ≡ bytes_of (reads w (load h key failure bs))
TakesOnly w capacity = Unit
TakesOnly w loads = Unit
TakesOnly w (pages h key) = Unit
TakesOnly w (get h key) = Unit
TakesOnly w (fetch h key) = Unit
TakesOnly w (load_from h key pack) = Unit
TakesOnly w clear = Unit

-- two packs have the same for a read of `len` bytes at `offset`: both end before it does, or neither, and the bytes are the same
pub record SameAt (offset len : ℕ) (Q R : List ℕ) : Type 0 where
  pub fits : leb (offset + len) (length R) ≡ leb (offset + len) (length Q)
  pub bytes : take len (drop offset R) ≡ take len (drop offset Q)

abbrev pub SameFor : Result (Option (ℕ × ℕ)) Refusal → List ℕ → List ℕ → Type 0
SameFor (Ok (Some (offset, len))) Q R = SameAt offset len Q R
SameFor (Ok None) Q R = Unit
SameFor (Err e) Q R = Unit

-- "fetches twice" by values: of a lent pack `load_from` sees the one read that `fetch` tells, and nothing else
abbrev pub LentOnly : World → Call → Type 0
LentOnly w c =
    (h : Header) (key : TileKey) (Q R : List ℕ) → c ≡ load_from h key Q → SameFor (Loaded.fetch w.cache w.arena h key) Q R →
    exec (load_from h key R) w ≡ exec c w

-- byte b of the arena is one of the load's next chunk
abbrev pub OfChunk : Option Loading → ℕ → Type 0
OfChunk None b = ⊥
OfChunk (Some l) b = (l.slot * 8192 + l.done ≤ b) × (b < l.slot * 8192 + l.done + chunk_len l)

-- what a call may do to the arena: leave it as it is, or bring the next chunk of the load
pub data Kind : Type 0 where
  keeps : Kind
  brings : Kind

abbrev pub kind_of : Call → Kind
kind_of (load h key failure bs) = brings
kind_of (load_from h key pack) = brings
kind_of capacity = keeps
kind_of loads = keeps
kind_of (pages h key) = keeps
kind_of (get h key) = keeps
kind_of (fetch h key) = keeps
kind_of clear = keeps

-- which bytes of the arena a call of a kind may write: a chunk its own and no others, and no other call any; beyond what demand 3 asks
abbrev pub MayWrite : Kind → Cache → ℕ → Type 0
MayWrite keeps c b = ⊥
MayWrite brings c b = OfChunk c.loading b

-- an arena as long as before, and the same in every byte that may not be written
pub record Written (may : ℕ → Type 0) (before after : List ℕ) : Type 0 where
  pub size : length after ≡ length before
  pub others : (b : ℕ) → (may b → ⊥) → get_or after b 0 ≡ get_or before b 0

-- the bytes of a ready tile, by its key: on whichever pages its run lies
pub record ReadyBytes (s : List Slot) (arena : List ℕ) (key : TileKey) (bs : List ℕ) : Type 0 where
  pub first : ℕ
  pub ready : (slot_at s first).ready ≡ true
  pub key_is : (slot_at s first).key ≡ Some key
  pub bytes : run_bytes arena first (slot_at s first).len ≡ bs

-- a key that is ready before and after has the same bytes
abbrev pub SameBytes : List Slot → List ℕ → List Slot → List ℕ → Type 0
SameBytes s before t after = (key : TileKey) (x y : List ℕ) → ReadyBytes s before key x → ReadyBytes t after key y → y ≡ x

-- so a call changes no ready tile: it may drop one, or move its run, and what is ready still is the same in every byte
abbrev pub KeptBytes : World → Call → Type 0
KeptBytes w c = SameBytes w.cache.pages.slots w.arena (exec c w).world.cache.pages.slots (exec c w).world.arena

-- the unfinished load is of a tile of 49,152 bytes at most (document 01: a longer one is Missing), so of 24 chunks at most
abbrev pub ShortLoad : Option Loading → Type 0
ShortLoad None = Unit
ShortLoad (Some l) = l.len ≤ 49152

abbrev pub LeavesShort : World → Call → Type 0
LeavesShort w c = ShortLoad (exec c w).world.cache.loading

-- every run is live: none is left behind that is neither ready nor being loaded
abbrev pub AllLive : Cache → Type 0
AllLive c = (h : ℕ) → kind_at c.pages.slots h ≡ run → Live c h

-- a step that answers Done leaves its tile ready or known missing, as the Rust's `load` says ("true once the tile is ready or known missing")
abbrev pub Settles : World → Call → Type 0
Settles w (load h key failure bs) =
    (exec (load h key failure bs) w).answer ≡ stepped (Ok Progress.Done) → lands_on (exec (load h key failure bs) w).world.cache key ≡ Landing.Nothing → ⊥
Settles w (load_from h key pack) =
    (exec (load_from h key pack) w).answer ≡ stepped (Ok Progress.Done) → lands_on (exec (load_from h key pack) w).world.cache key ≡ Landing.Nothing → ⊥
Settles w capacity = Unit
Settles w loads = Unit
Settles w (pages h key) = Unit
Settles w (get h key) = Unit
Settles w (fetch h key) = Unit
Settles w clear = Unit

-- of each call
pub record Safe (w : World) (c : Call) : Type 0 where
  pub all_live : AllLive (exec c w).world.cache
  pub settles : Settles w c
  pub apart : Apart (exec c w).world.cache
  pub handed_out : HandedOut w c
  pub one_read : length (reads w c) ≤ 1
  pub lent_only : LentOnly w c
  pub takes_only : TakesOnly w c
  pub written : Written (MayWrite (kind_of c) w.cache) w.arena (exec c w).world.arena
  pub kept : KeptBytes w c

-- ---- demand 3's premises, for one pack P

-- a given header is the pack's, parsed
pub record Parsed (P : List ℕ) (h : Header) : Type 0 where
  pub whole : 512 ≤ length P
  pub parses : parse (take 512 P) ≡ Ok h

-- bytes that answer a read are what the pack has there
abbrev pub FairBytes : List ℕ → Result (Option (ℕ × ℕ)) Refusal → List ℕ → Type 0
FairBytes P (Ok (Some (offset, len))) bs = length bs ≡ len → (offset + len ≤ length P) × (bs ≡ take len (drop offset P))
FairBytes P (Ok None) bs = Unit
FairBytes P (Err e) bs = Unit

-- what a lent pack yields for a read is what the pack has there
abbrev pub FairPack : List ℕ → Result (Option (ℕ × ℕ)) Refusal → List ℕ → Type 0
FairPack P (Ok (Some (offset, len))) Q = offset + len ≤ length Q → (offset + len ≤ length P) × (take len (drop offset Q) ≡ take len (drop offset P))
FairPack P (Ok None) Q = Unit
FairPack P (Err e) Q = Unit

-- nothing is asked of a call that gives nothing, of a read that failed, nor of bytes of another length, which are refused
abbrev pub Fair : List ℕ → World → Call → Type 0
Fair P w capacity = Unit
Fair P w loads = Unit
Fair P w clear = Unit
Fair P w (pages h key) = Parsed P h
Fair P w (get h key) = Parsed P h
Fair P w (fetch h key) = Parsed P h
Fair P w (load h key failure bs) = Parsed P h × (failure ≡ 0 → FairBytes P (Loaded.fetch w.cache w.arena h key) bs)
Fair P w (load_from h key Q) = Parsed P h × FairPack P (Loaded.fetch w.cache w.arena h key) Q

-- ---- under them

-- an answer in bytes: what it says of the direct lookup
abbrev pub SameLook : List ℕ → Result Lookup Refusal → Look → Type 0
SameLook arena (Ok (Lookup.Ready first len)) d = d ≡ ready (run_bytes arena first len)
SameLook arena (Ok Lookup.Missing) d = d ≡ missing
SameLook arena (Ok Lookup.Absent) d = Unit
SameLook arena (Err e) d = Unit

-- whatever `get` answers other than Absent is what the direct lookup with n pages gives, bytes included: so that has an answer there
abbrev pub SameAs : List ℕ → ℕ → World → Call → Type 0
SameAs P n w (get h key) = (l : Result Lookup Refusal) → (exec (get h key) w).answer ≡ found l → SameLook w.arena l (direct P h n key)
SameAs P n w capacity = Unit
SameAs P n w loads = Unit
SameAs P n w (pages h key) = Unit
SameAs P n w (fetch h key) = Unit
SameAs P n w (load h key failure bs) = Unit
SameAs P n w (load_from h key Q) = Unit
SameAs P n w clear = Unit

-- a call that number 12 does not refuse
abbrev pub Open : World → Call → Type 0
Open w c = number (exec c w).answer ≡ 12 → ⊥

-- ---- the claims, of every list from a fresh cache of n pages over an arena

-- whatever is delivered or given
abbrev pub AlwaysSafe : Type 0
AlwaysSafe = (n : ℕ) → n ≤ 96 → (arena : List ℕ) (cs : List Call) → Along Safe cs (start n arena)

-- and the load's length likewise
abbrev pub AlwaysShort : Type 0
AlwaysShort = (n : ℕ) → n ≤ 96 → (arena : List ℕ) (cs : List Call) → Along LeavesShort cs (start n arena)

-- of one pack, whichever reads fail and whatever is evicted
abbrev pub AlwaysSame : Type 0
AlwaysSame = (P : List ℕ) (n : ℕ) → n ≤ 96 → (arena : List ℕ) (cs : List Call) → Along (Fair P) cs (start n arena) → Along (SameAs P n) cs (start n arena)

-- and no call is refused with 12 while the arena holds its pages
abbrev pub AlwaysOpen : Type 0
AlwaysOpen =
    (P : List ℕ) (n : ℕ) → n ≤ 96 → (arena : List ℕ) → n * 8192 ≤ length arena → (cs : List Call) → Along (Fair P) cs (start n arena) → Along Open cs (start n arena)
