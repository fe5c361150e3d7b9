-- A step over a lent pack is `fetch` followed by `load` (`from_steps`): what `load_from` does in one pass is what its definition says in two.
-- The idea: by the next step; the bytes that the pack yields have the read's length, and a chunk of a load that is not refused has at least
-- one byte, so that failure 2 answers it.
use Rattle.std.specs.Prelude.{Option, Some, None}
use Rattle.std.proofs.Common.{◌≡◌, ℕ, ◌+◌, ◌-◌, ◌<◌, Bool, true, false, cond, not, eqb, ltb, leb, List, [], ◌∷◌, length, drop, refl, arith, length-drop, length-take-le, ltb-true, lt-ltb, eq-eqb, leb-true}
use Rattle.pack.specs.Grid.{in_grid, entry_of, read}
use Rattle.pack.specs.declared.TileKey.{TileKey}
use Rattle.pack.specs.declared.Header.{Header}
use Rattle.pack.proofs.Laws.{and_left, and_right, clause}
use Rattle.cache.specs.Runs as Runs
use Rattle.cache.specs.declared.Cache.{Cache}
use Rattle.cache.specs.declared.Loading.{Loading}
use Rattle.cache.specs.declared.look.Landing.{Landing}
use Rattle.cache.specs.declared.next.Next.{Next}
use Rattle.cache.specs.Keys.{same_key, holds}
use Rattle.cache.specs.Lookups.{lands_on, next_read, next_at, next_step, passes, len_at}
use Rattle.cache.specs.State.{tile_loads, loads_ok, state_ok, cache_ok, runs_ok, ring_ok, load_ok, pending_ok}
use Rattle.cache.specs.Loads.{chunk_len, chunk_offset, fetched, pack_bytes, stepped_from}
use Rattle.cache.specs.Calls.{fetch, load, request_load, load_from}

-- ---- the load of the next chunk

module _ (key : TileKey) (l : Loading) where
  read_load : (m : Option Loading) → next_read m key ≡ Next.Chunk l → m ≡ Some l
  read_load None e = let z : ◌≡◌ {A = ℕ} 0 1 = cc in absurd (omega arith)
  read_load (Some k) e = by (same_key k.key key) e
    where
      by : (t : Bool) → cond t (Next.Chunk k) Next.Entry ≡ Next.Chunk l → Some k ≡ Some l
      by true e = cc
      by false e = let z : ◌≡◌ {A = ℕ} 0 1 = cc in absurd (omega arith)

  at_load : (x : Landing) (c : Cache) → next_at x c key ≡ Next.Chunk l → c.loading ≡ Some l
  at_load Landing.Missing c e = let z : ◌≡◌ {A = ℕ} 0 1 = cc in absurd (omega arith)
  at_load (Landing.At i) c e = let z : ◌≡◌ {A = ℕ} 0 1 = cc in absurd (omega arith)
  at_load Landing.Nothing c e = by (eqb c.pages.count 0) e
    where
      by : (t : Bool) → cond t Next.NoPages (next_read c.loading key) ≡ Next.Chunk l → c.loading ≡ Some l
      by true e = let z : ◌≡◌ {A = ℕ} 0 1 = cc in absurd (omega arith)
      by false e = read_load c.loading e

  -- the next step towards a key is a chunk only of the load under way
  pub next_chunk : (c : Cache) → next_step c key ≡ Next.Chunk l → c.loading ≡ Some l
  unfolding next_step
  next_chunk c e = at_load (lands_on c key) c e

-- a load that number 12 does not name has bytes to come
pub bytes_left : (c : Cache) (l : Loading) → state_ok c ≡ true → c.loading ≡ Some l → l.done < l.len
unfolding state_ok tile_loads
bytes_left c l ok e =
    let s = Runs.slot_at c.pages.slots l.slot in
    let loads : loads_ok c.pages (Some l) ≡ true = rw e at (clause 2 (runs_ok c ∷ ring_ok c ∷ load_ok c ∷ pending_ok c ∷ []) ok) in
    let keyed = and_right (Runs.is_run (Runs.kind_of s)) _ loads in
    let long = and_right (holds s.key l.key) _ keyed in
    let unready = and_right (eqb s.len l.len) _ long in
    ltb-true l.done l.len (and_right (not s.ready) _ unready)

chunk_some : (l : Loading) → l.done < l.len → 0 < chunk_len l
unfolding chunk_len
chunk_some l h = by (ltb (l.len - l.done) 2048)
  where
    by : (t : Bool) → 0 < cond t (l.len - l.done) 2048
    by true = omega arith
    by false = omega arith

-- ---- the pack's bytes have the read's length

pack_length : (pack : List ℕ) (offset n : ℕ) → leb (offset + n) (length pack) ≡ true → length (pack_bytes pack offset n) ≡ n
pack_length pack offset n e = length-take-le n (drop offset pack) (rw length-drop (omega (arith, leb-true (offset + n) (length pack) e)))

-- ---- the two in one

module _ (c : Cache) (arena : List ℕ) (h : Header) (key : TileKey) (pack : List ℕ) (ok : cache_ok c h (length arena) ≡ true) (grid : in_grid h key ≡ true) where
  state_ok_lem : state_ok c ≡ true
  unfolding cache_ok
  state_ok_lem = and_left (state_ok c) _ ok

  ready_by : (i : ℕ) (t : Bool) → next_step c key ≡ Next.Ready i → passes arena i (len_at c i) key h.tile ≡ t
      → request_load (fetched c (Next.Ready i) arena h key) c arena h key pack ≡ stepped_from c (Next.Ready i) arena h key pack
  unfolding load
  ready_by i true e t = rw (t, ok, e, grid, t)
  ready_by i false e t = rw t

  entry_by : (t : Bool) → next_step c key ≡ Next.Entry → leb (entry_of h key + 8) (length pack) ≡ t
      → request_load (fetched c Next.Entry arena h key) c arena h key pack ≡ stepped_from c Next.Entry arena h key pack
  unfolding load read
  entry_by true e t = rw (t, ok, e, grid, pack_length pack (entry_of h key) 8 t)
  entry_by false e t = rw (t, ok, e, grid)

  chunk_by : (l : Loading) (t : Bool) → next_step c key ≡ Next.Chunk l → leb (chunk_offset l + chunk_len l) (length pack) ≡ t
      → request_load (fetched c (Next.Chunk l) arena h key) c arena h key pack ≡ stepped_from c (Next.Chunk l) arena h key pack
  unfolding load read
  chunk_by l true e t = rw (t, ok, e, grid, pack_length pack (chunk_offset l) (chunk_len l) t, eq-eqb (chunk_len l) (chunk_len l) refl)
  chunk_by l false e t =
      let some : ltb 0 (chunk_len l) ≡ true = lt-ltb 0 (chunk_len l) (chunk_some l (bytes_left c l state_ok_lem (next_chunk key l c e))) in
      rw (t, ok, e, grid, some)

  by_next : (n : Next) → next_step c key ≡ n → request_load (fetched c n arena h key) c arena h key pack ≡ stepped_from c n arena h key pack
  unfolding load
  by_next (Next.Ready i) e = ready_by i (passes arena i (len_at c i) key h.tile) e refl
  by_next Next.Missing e = rw (ok, e, grid)
  by_next Next.NoPages e = rw (ok, e, grid)
  by_next Next.Entry e = entry_by (leb (entry_of h key + 8) (length pack)) e refl
  by_next (Next.Chunk l) e = chunk_by l (leb (chunk_offset l + chunk_len l) (length pack)) e refl

  pub from_steps : load_from c arena h key pack ≡ stepped_from c (next_step c key) arena h key pack
  unfolding load_from fetch
  from_steps = rw (ok, grid) (by_next (next_step c key) refl)
