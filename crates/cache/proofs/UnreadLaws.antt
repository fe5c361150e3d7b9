-- The step without a read: what `settled` works out is `load` past number 12's test with failure 0 and no bytes (`unread_steps`), and that
-- leaves the arena as it was (`settled_leaves`). A load that has all of its tile asks for no bytes, and those write nothing.
use Rattle.std.proofs.Common.{◌≡◌, ℕ, ◌+◌, ◌-◌, ◌*◌, ◌<◌, ◌≤◌, Bool, true, false, cond, eqb, ltb, leb, List, [], length, take, refl, append-nil, add-zero, arith, take-append-drop, le-ltb, ne_eqb, leb-false, leb-true}
use lib.Seq.{paste}
use Rattle.pack.specs.Grid.{in_grid}
use Rattle.pack.specs.declared.TileKey.{TileKey}
use Rattle.pack.specs.declared.Header.{Header}
use Rattle.refusal.specs.declared.Refusal.{Refusal}
use Rattle.cache.specs.declared.Cache.{Cache}
use Rattle.cache.specs.declared.Loading.{Loading}
use Rattle.cache.specs.declared.next.Next.{Next}
use Rattle.cache.specs.Lookups.{next_step}
use Rattle.cache.specs.Loads.{After, told, over, refused, done, ended, chunk_len, put, chunk_step, fits, read_len, stepped, unread_step}
use Rattle.cache.specs.Calls.{load_tested}

-- the step n with failure 0 and no bytes, where it is taken
abbrev pub tried : Cache → Next → List ℕ → Header → TileKey → After
tried c n arena h key = cond (fits (read_len n) 0 0) (stepped c n arena h key 0 []) (over (refused c Refusal.NotAsked) arena)

-- no bytes are written
put_none : (arena : List ℕ) (slot come : ℕ) → put arena slot come [] ≡ arena
unfolding put
put_none arena slot come = by (leb (slot * 8192 + come + 0) (length arena))
  where
    whole : paste arena (slot * 8192 + come) [] 0 ≡ arena
    whole = rw (append-nil (take (slot * 8192 + come) arena), add-zero (slot * 8192 + come)) (take-append-drop (slot * 8192 + come) arena)

    by : (t : Bool) → cond t (paste arena (slot * 8192 + come) [] 0) arena ≡ arena
    by true = whole
    by false = refl

module _ (c : Cache) (arena : List ℕ) (h : Header) (key : TileKey) where
  -- a chunk has no bytes where all has come
  chunk_none : (l : Loading) → l.len ≤ l.done → chunk_len l ≡ 0
  unfolding chunk_len
  chunk_none l b = let z : l.len - l.done ≡ 0 = omega arith in rw z

  chunk_some : (l : Loading) → l.done < l.len → eqb 0 (chunk_len l) ≡ false
  unfolding chunk_len
  chunk_some l b = by (ltb (l.len - l.done) 2048) refl
    where
      by : (t : Bool) → ltb (l.len - l.done) 2048 ≡ t → eqb 0 (cond t (l.len - l.done) 2048) ≡ false
      by true e = ne_eqb 0 (l.len - l.done) (λ z. omega arith)
      by false e = refl

  chunk_by : (l : Loading) (t : Bool) → leb l.len l.done ≡ t
      → tried c (Next.Chunk l) arena h key ≡ over (cond t (done (ended c arena l h.tile)) (refused c Refusal.NotAsked)) arena
  unfolding chunk_step
  chunk_by l true e =
      let b : l.len ≤ l.done = leb-true l.len l.done e in
      rw (chunk_none l b, put_none arena l.slot l.done, le-ltb (l.done + 0) l.len (omega arith))
  chunk_by l false e = rw (chunk_some l (leb-false l.len l.done e))

  by_next : (n : Next) → tried c n arena h key ≡ over (unread_step c n arena key h.tile) arena
  by_next (Next.Ready i) = refl
  by_next Next.Missing = refl
  by_next Next.NoPages = refl
  by_next Next.Entry = refl
  by_next (Next.Chunk l) = chunk_by l (leb l.len l.done) refl

  tested : in_grid h key ≡ true → load_tested c arena h key 0 [] ≡ over (unread_step c (next_step c key) arena key h.tile) arena
  tested inside = rw inside (by_next (next_step c key))

  pub unread_steps : in_grid h key ≡ true → told (load_tested c arena h key 0 []) ≡ unread_step c (next_step c key) arena key h.tile
  unread_steps inside = rw (tested inside)

  outside : in_grid h key ≡ false → (load_tested c arena h key 0 []).arena ≡ arena
  outside e = rw e

  pub settled_leaves : (load_tested c arena h key 0 []).arena ≡ arena
  settled_leaves = by (in_grid h key) refl
    where
      by : (t : Bool) → in_grid h key ≡ t → (load_tested c arena h key 0 []).arena ≡ arena
      by true e = rw (tested e)
      by false e = outside e
