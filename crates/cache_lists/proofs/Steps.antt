-- What `get` and `load` do, in one of four ways and of ten (`Gets`, `Step`), each with what is then known: every test of their definitions
-- is met here, once, and whatever is shown of them goes by these ways. `load_from` is a `load` with some answer (`from_is`).
use Prim.Native.Nat.{ℕ, ◌+◌, ◌*◌, ◌<◌, ◌≤◌}
use mathlib.Core.Path.{◌≡◌, refl, ap, ◌∙◌}
use mathlib.Core.Bool.{Bool, true, false, cond}
use mathlib.Core.List.{List, []}
use native.Mathlib.Omega.{arith}
use borrow.Author.Tests.{leb-true, ltb-true, ltb-false, eqb-true}
use lib.Dec.{eqb, ltb}
use lib.ListN.{length}
use Rattle.std.specs.Prelude.{Option, Some, None, Result, Ok, Err}
use Rattle.refusal.specs.declared.Refusal.{Refusal}
use Rattle.pack.specs.Sector.{rules}
use Rattle.pack.specs.Grid.{in_grid, locate_of, read}
use Rattle.pack.specs.declared.TileKey.{TileKey}
use Rattle.pack.specs.declared.Header.{Header}
use Rattle.pack.proofs.Laws.{read_at}
use Rattle.cache.specs.Runs.{span}
use Rattle.cache.specs.Victim.{victim}
use Rattle.cache.specs.Begin.{replaced, begun_at, begun}
use Rattle.cache.proofs.Below.{and_right}
use Rattle.cache.specs.declared.Cache.{Cache}
use Rattle.cache.specs.declared.Loading.{Loading}
use Rattle.cache.specs.declared.next.Next.{Next}
use Rattle.cache.specs.declared.Lookup.TheVariants as Lookup
use Rattle.cache.specs.declared.Got.{Got}
use Rattle.cache.specs.declared.look.Landing.{Landing}
use Rattle.cache.specs.Keys.{in_ring, ready_at}
use Rattle.cache.specs.Lookups.{lands_on, passes, len_at, touched, got_ready, got_at, got, next_step}
use Rattle.cache.specs.State.{state_ok, cache_ok, entry_in}
use Rattle.cache.specs.Loads.{After, over, refused, missed, failed, done, more, fetched, read_len, fits, takes, moved, forgot, dropped, new_load, began_at, began, located, entry_step, chunk_len, put, readied, ended, further, chunk_came, chunk_step, stepped, pack_bytes}
use Rattle.cache.specs.Calls.{got_nothing, get, fetch, load, load_by, request_load, load_from}
use Rattle.cache_lists.specs.Claims.{FairBytes, FairPack}
use Rattle.cache_lists.proofs.Lookups.{LandingIs, landing, next_is}

-- ---- refusals

-- why a call is refused: a state that 12 names; an answer to another read; a key outside the grid; a ready run that no longer passes
pub data Cause (c : Cache) (arena : List ℕ) (h : Header) (key : TileKey) : Refusal → Type 0 where
  named : cache_ok c h (length arena) ≡ false → Cause c arena h key Refusal.BadState
  unasked : Cause c arena h key Refusal.NotAsked
  outside : Cause c arena h key Refusal.OutsideGrid
  stale : (i : ℕ) → ready_at c.pages key ≡ Some i → passes arena i (len_at c i) key h.tile ≡ false → Cause c arena h key Refusal.BadState

-- ---- `get`, and the ways that it goes

pub data Gets (c : Cache) (arena : List ℕ) (h : Header) (key : TileKey) : Got → Type 0 where
  denied : (e : Refusal) → Cause c arena h key e → Gets c arena h key (got_nothing c e)
  ringed : in_ring c.missing key ≡ true → Gets c arena h key (record { answer = Ok Lookup.Missing; cache = c })
  unknown : Gets c arena h key (record { answer = Ok Lookup.Absent; cache = c })
  handed : (i : ℕ) → ready_at c.pages key ≡ Some i → passes arena i (len_at c i) key h.tile ≡ true
      → Gets c arena h key (record { answer = Ok (Lookup.Ready i (len_at c i)); cache = touched c i })

module _ (c : Cache) (arena : List ℕ) (h : Header) (key : TileKey) where
  ready_is : (i : ℕ) (t : Bool) → ready_at c.pages key ≡ Some i → passes arena i (len_at c i) key h.tile ≡ t → Gets c arena h key (got_ready t c i)
  ready_is i true e p = handed i e p
  ready_is i false e p = denied Refusal.BadState (stale i e p)

  landed_is : (x : Landing) → LandingIs c key x → Gets c arena h key (got_at x c arena h.tile key)
  landed_is Landing.Missing e = ringed e
  landed_is Landing.Nothing e = unknown
  landed_is (Landing.At i) e = ready_is i (passes arena i (len_at c i) key h.tile) e refl

  pub get_is : Gets c arena h key (get c arena h key)
  unfolding get got
  get_is = by (cache_ok c h (length arena)) (in_grid h key) refl
    where
      by : (ok grid : Bool) → cache_ok c h (length arena) ≡ ok
          → Gets c arena h key (cond ok (cond grid (got_at (lands_on c key) c arena h.tile key) (got_nothing c Refusal.OutsideGrid)) (got_nothing c Refusal.BadState))
      by true true o = landed_is (lands_on c key) (landing c key)
      by true false o = denied Refusal.OutsideGrid outside
      by false grid o = denied Refusal.BadState (named o)

-- ---- `load`, and the ways that it goes

-- the read of the step `next` is answered by its bytes, in a state that 12 does not name, towards a key in the grid
pub record Came (c : Cache) (arena : List ℕ) (h : Header) (key : TileKey) (failure : ℕ) (bs : List ℕ) (next : Next) : Type 0 where
  pub ok : cache_ok c h (length arena) ≡ true
  pub grid : in_grid h key ≡ true
  pub is : next_step c key ≡ next
  pub whole : failure ≡ 0
  pub size : length bs ≡ read_len next

-- the chunk is of the state's load, which is the key's
pub came_loading : {c : Cache} {arena : List ℕ} {h : Header} {key : TileKey} {failure : ℕ} {bs : List ℕ} {l : Loading}
    → Came c arena h key failure bs (Next.Chunk l) → c.loading ≡ Some l
came_loading {c} {key = key} came = (rw came.is at (next_is c key)).0

pub came_key : {c : Cache} {arena : List ℕ} {h : Header} {key : TileKey} {failure : ℕ} {bs : List ℕ} {l : Loading}
    → Came c arena h key failure bs (Next.Chunk l) → l.key ≡ key
came_key {c} {key = key} came = (rw came.is at (next_is c key)).1

pub came_next : {c : Cache} {arena : List ℕ} {h : Header} {key : TileKey} {failure : ℕ} {bs : List ℕ} {l : Loading}
    → Came c arena h key failure bs (Next.Chunk l) → next_step c l.key ≡ Next.Chunk l
came_next {c} came = ap (next_step c) (came_key came) ∙ came.is

-- the arena holds the pages
pub came_holds : {c : Cache} {arena : List ℕ} {h : Header} {key : TileKey} {failure : ℕ} {bs : List ℕ} {next : Next}
    → Came c arena h key failure bs next → c.pages.count * 8192 ≤ length arena
unfolding cache_ok
came_holds {c} {arena} {h} came = leb-true (c.pages.count * 8192) (length arena) (and_right (entry_in c.pending h) _ (and_right (rules h) _ (and_right (state_ok c) _ came.ok)))

-- what an entry tells of a tile that the cache d can't hold: none there, too long for any run, or for the pages
pub data Lacks (d : Cache) : Result (Option (ℕ × ℕ)) Refusal → Type 0 where
  none : Lacks d (Ok None)
  long : (offset len : ℕ) → 49152 < len → Lacks d (Ok (Some (offset, len)))
  wide : (offset len : ℕ) → victim d.pages (span len) ≡ None → Lacks d (Ok (Some (offset, len)))

pub data Step (c : Cache) (arena : List ℕ) (h : Header) (key : TileKey) (failure : ℕ) (bs : List ℕ) : After → Type 0 where
  refuses : (e : Refusal) → Cause c arena h key e → Step c arena h key failure bs (over (refused c e) arena)
  -- nothing to read: known missing; ready; no pages
  knows : in_ring c.missing key ≡ true → Step c arena h key failure bs (over (done c) arena)
  uses : (i : ℕ) → ready_at c.pages key ≡ Some i → Step c arena h key failure bs (over (done (touched c i)) arena)
  no_pages : c.pages.count ≡ 0 → Step c arena h key failure bs (over (done (forgot c key)) arena)
  -- the read failed, or its entry is a bad one
  fails : (e : Refusal) → Step c arena h key failure bs (over (failed (dropped c) e) arena)
  -- the entry came: missing; a load begins
  lacks : Came c arena h key failure bs Next.Entry → Lacks (dropped c) (locate_of h bs)
      → Step c arena h key failure bs (over (done (forgot (dropped c) key)) arena)
  begins : Came c arena h key failure bs Next.Entry → (offset len slot : ℕ) → locate_of h bs ≡ Ok (Some (offset, len)) → len ≤ 49152
      → victim (dropped c).pages (span len) ≡ Some slot
      → Step c arena h key failure bs
      (over (more (moved (dropped c) (replaced (dropped c).pages slot key len) (Some (new_load key slot offset len)))) arena)
  -- a chunk came: more to come; the last, and the tile passes; the last, and it does not
  goes_on : (l : Loading) → Came c arena h key failure bs (Next.Chunk l) → l.done + chunk_len l < l.len
      → Step c arena h key failure bs (over (more (further c l (l.done + chunk_len l))) (put arena l.slot l.done bs))
  readies : (l : Loading) → Came c arena h key failure bs (Next.Chunk l) → l.len ≤ l.done + chunk_len l
      → passes (put arena l.slot l.done bs) l.slot l.len l.key h.tile ≡ true
      → Step c arena h key failure bs (over (done (readied c l)) (put arena l.slot l.done bs))
  spoils : (l : Loading) → Came c arena h key failure bs (Next.Chunk l) → l.len ≤ l.done + chunk_len l
      → passes (put arena l.slot l.done bs) l.slot l.len l.key h.tile ≡ false
      → Step c arena h key failure bs (over (done (forgot (dropped c) l.key)) (put arena l.slot l.done bs))

module _ (c : Cache) (arena : List ℕ) (h : Header) (key : TileKey) (failure : ℕ) (bs : List ℕ) where
  abbrev Goes : After → Type 0
  Goes = Step c arena h key failure bs

  -- the entry
  module _ (came : Came c arena h key failure bs Next.Entry) where
    begins_by : (offset len : ℕ) (x : Option ℕ) → locate_of h bs ≡ Ok (Some (offset, len)) → len ≤ 49152 → victim (dropped c).pages (span len) ≡ x
        → Goes (over (began_at (begun_at (dropped c).pages key len x).at (dropped c) (begun_at (dropped c).pages key len x).pages key offset len) arena)
    begins_by offset len None e s v = lacks came (rw e (wide offset len v))
    begins_by offset len (Some slot) e s v = begins came offset len slot e s v

    began_by : (offset len : ℕ) (t : Bool) → locate_of h bs ≡ Ok (Some (offset, len)) → ltb 49152 len ≡ t
        → Goes (over (cond t (done (forgot (dropped c) key))
        (began_at (begun (dropped c).pages key len).at (dropped c) (begun (dropped c).pages key len).pages key offset len)) arena)
    began_by offset len true e s = lacks came (rw e (long offset len (ltb-true 49152 len s)))
    began_by offset len false e s = begins_by offset len (victim (dropped c).pages (span len)) e (ltb-false 49152 len s) refl

    located_by : (x : Result (Option (ℕ × ℕ)) Refusal) → locate_of h bs ≡ x → Goes (over (located x (dropped c) key) arena)
    unfolding began
    located_by (Ok None) e = lacks came (rw e none)
    located_by (Err n) e = fails n
    located_by (Ok (Some (offset, len))) e = began_by offset len (ltb 49152 len) e refl

  -- a chunk
  module _ (l : Loading) (came : Came c arena h key failure bs (Next.Chunk l)) where
    abbrev filled : List ℕ
    filled = put arena l.slot l.done bs

    ended_by : (t : Bool) → l.len ≤ l.done + chunk_len l → passes filled l.slot l.len l.key h.tile ≡ t
        → Goes (over (done (cond t (readied c l) (forgot (dropped c) l.key))) filled)
    ended_by true b e = readies l came b e
    ended_by false b e = spoils l came b e

    came_by : (t : Bool) → ltb (l.done + chunk_len l) l.len ≡ t
        → Goes (cond t (over (more (further c l (l.done + chunk_len l))) filled) (over (done (ended c filled l h.tile)) filled))
    unfolding ended
    came_by true e = goes_on l came (ltb-true (l.done + chunk_len l) l.len e)
    came_by false e = ended_by (passes filled l.slot l.len l.key h.tile) (ltb-false (l.done + chunk_len l) l.len e) refl

  -- the step
  module _ (ok : cache_ok c h (length arena) ≡ true) (grid : in_grid h key ≡ true) where
    came_of : (n : Next) → next_step c key ≡ n → eqb failure 0 ≡ true → fits (read_len n) failure (length bs) ≡ true → Came c arena h key failure bs n
    came_of n e f t = record {
      ok = ok;
      grid = grid;
      is = e;
      whole = eqb-true failure 0 f;
      size = eqb-true (length bs) (read_len n) (rw f at t);
    }

    ready_by : (i : ℕ) (t : Bool) → ready_at c.pages key ≡ Some i → passes arena i (len_at c i) key h.tile ≡ t
        → Goes (over (cond t (done (touched c i)) (refused c Refusal.BadState)) arena)
    ready_by i true e p = uses i e
    ready_by i false e p = refuses Refusal.BadState (stale i e p)

    entry_by : (t : Bool) → next_step c key ≡ Next.Entry → fits 8 failure (length bs) ≡ true → eqb failure 0 ≡ t
        → Goes (over (cond t (located (locate_of h bs) (dropped c) key) (failed (dropped c) (missed failure))) arena)
    entry_by true e f z = located_by (came_of Next.Entry e z f) (locate_of h bs) refl
    entry_by false e f z = fails (missed failure)

    chunk_by : (l : Loading) (t : Bool) → next_step c key ≡ Next.Chunk l → fits (chunk_len l) failure (length bs) ≡ true → eqb failure 0 ≡ t
        → Goes (cond t (chunk_came c l (put arena l.slot l.done bs) h.tile (l.done + chunk_len l)) (over (failed (dropped c) (missed failure)) arena))
    chunk_by l true e f z = came_by l (came_of (Next.Chunk l) e z f) (ltb (l.done + chunk_len l) l.len) refl
    chunk_by l false e f z = fails (missed failure)

    step_by : (n : Next) → next_step c key ≡ n → fits (read_len n) failure (length bs) ≡ true → Goes (stepped c n arena h key failure bs)
    unfolding entry_step chunk_step
    step_by (Next.Ready i) e f = ready_by i (passes arena i (len_at c i) key h.tile) (rw e at (next_is c key)) refl
    step_by Next.Missing e f = knows (rw e at (next_is c key))
    step_by Next.NoPages e f = no_pages (rw e at (next_is c key))
    step_by Next.Entry e f = entry_by (eqb failure 0) e f refl
    step_by (Next.Chunk l) e f = chunk_by l (eqb failure 0) e f refl

  load_by_lem : (ok t grid : Bool) → cache_ok c h (length arena) ≡ ok → takes (next_step c key) h key failure (length bs) ≡ t → in_grid h key ≡ grid
      → Goes (cond ok
      (cond t (cond grid (stepped c (next_step c key) arena h key failure bs) (over (refused c Refusal.OutsideGrid) arena)) (over (refused c Refusal.NotAsked) arena))
      (over (refused c Refusal.BadState) arena))
  load_by_lem true true true o t g = step_by o g (next_step c key) refl (rw g at t)
  load_by_lem true true false o t g = refuses Refusal.OutsideGrid outside
  load_by_lem true false grid o t g = refuses Refusal.NotAsked unasked
  load_by_lem false t grid o q g = refuses Refusal.BadState (named o)

  pub load_is : Step c arena h key failure bs (load c arena h key failure bs)
  unfolding load
  load_is = load_by_lem (cache_ok c h (length arena)) (takes (next_step c key) h key failure (length bs)) (in_grid h key) refl refl refl

-- ---- what `fetch` tells

module _ (c : Cache) (arena : List ℕ) (h : Header) (key : TileKey) where
  -- the read that is then answered
  pub fetch_came : {failure : ℕ} {bs : List ℕ} {n : Next} → Came c arena h key failure bs n → fetch c arena h key ≡ fetched c n arena h key
  unfolding fetch
  fetch_came came = rw (came.ok, came.grid, came.is)

  abbrev pub FetchIs : Result (Option (ℕ × ℕ)) Refusal → Type 0
  FetchIs (Ok None) = Unit
  FetchIs (Ok (Some (offset, len))) = Unit
  FetchIs (Err e) = Cause c arena h key e

  fetched_is : (n : Next) → next_step c key ≡ n → FetchIs (fetched c n arena h key)
  fetched_is (Next.Ready i) e = by (passes arena i (len_at c i) key h.tile) refl
    where
      by : (t : Bool) → passes arena i (len_at c i) key h.tile ≡ t → FetchIs (cond t (Ok None) (Err Refusal.BadState))
      by true p = tt
      by false p = stale i (rw e at (next_is c key)) p
  fetched_is Next.Missing e = tt
  fetched_is Next.NoPages e = tt
  fetched_is Next.Entry e = tt
  fetched_is (Next.Chunk l) e = tt

  pub fetch_is : FetchIs (fetch c arena h key)
  unfolding fetch
  fetch_is = by (cache_ok c h (length arena)) (in_grid h key) refl
    where
      by : (ok grid : Bool) → cache_ok c h (length arena) ≡ ok
          → FetchIs (cond ok (cond grid (fetched c (next_step c key) arena h key) (Err Refusal.OutsideGrid)) (Err Refusal.BadState))
      by true true o = fetched_is (next_step c key) refl
      by true false o = outside
      by false grid o = named o

-- ---- `load_from` is `load` with an answer that is fair where the lent pack is

pub record From (c : Cache) (arena : List ℕ) (h : Header) (key : TileKey) (pack : List ℕ) (r : After) : Type 0 where
  pub failure : ℕ
  pub bytes : List ℕ
  pub goes : Step c arena h key failure bytes r
  pub fair : (P : List ℕ) → FairPack P (fetch c arena h key) pack → failure ≡ 0 → FairBytes P (fetch c arena h key) bytes

module _ (c : Cache) (arena : List ℕ) (h : Header) (key : TileKey) (pack : List ℕ) where
  read_by : (offset n : ℕ) (x : Result ℕ Refusal) → fetch c arena h key ≡ Ok (Some (offset, n)) → read pack offset n ≡ x
      → From c arena h key pack (load_by x c arena h key n pack)
  read_by offset n (Ok a) e q =
      let r : (a ≡ offset) × (offset + n ≤ length pack) = read_at pack offset n q in
      record {
        failure = 0;
        bytes = pack_bytes pack a n;
        goes = load_is c arena h key 0 (pack_bytes pack a n);
        fair = λ (P : List ℕ). rw (e, r.0) (λ f z size. f r.1);
      }
  read_by offset n (Err number) e q = record {
    failure = 2;
    bytes = [];
    goes = load_is c arena h key 2 [];
    fair = λ (P : List ℕ) (f : FairPack P (fetch c arena h key) pack) (z : ◌≡◌ {A = ℕ} 2 0). absurd (omega arith);
  }

  request_by : (x : Result (Option (ℕ × ℕ)) Refusal) → fetch c arena h key ≡ x → FetchIs c arena h key x → From c arena h key pack (request_load x c arena h key pack)
  request_by (Ok None) e f = record {
    failure = 0;
    bytes = [];
    goes = load_is c arena h key 0 [];
    fair = λ (P : List ℕ). rw e (λ f z. tt);
  }
  request_by (Err number) e f = record {
    failure = 0;
    bytes = [];
    goes = refuses number f;
    fair = λ (P : List ℕ). rw e (λ f z. tt);
  }
  request_by (Ok (Some (offset, n))) e f = read_by offset n (read pack offset n) e refl

  pub from_is : From c arena h key pack (load_from c arena h key pack)
  unfolding load_from
  from_is = request_by (fetch c arena h key) refl (fetch_is c arena h key)
