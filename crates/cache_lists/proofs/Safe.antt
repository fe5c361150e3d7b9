-- With no premise: the state's invariant holds along every list of calls, and each call is safe. By the ways that a call goes.
use Rattle.refusal.specs.declared.Refusal.{Refusal}
use Rattle.std.specs.Prelude.{Option, Some, None, Result}
use Rattle.refusal.specs.Refusal.{number_of_result}
use Prim.Native.Nat.{ℕ, ◌+◌, ◌*◌, ◌≤◌}
use mathlib.Core.Path.{◌≡◌, refl, sym, ap, ◌∙◌}
use mathlib.Core.Bool.{Bool, true, false, ◌&&◌, cond, true≢false}
use mathlib.Core.Logic.{inl}
use mathlib.Core.List.{List, [], ◌∷◌}
use native.Mathlib.Nat.{add-zero}
use native.Mathlib.Omega.{arith}
use borrow.Author.Tests.{leb-true, eqb-true}
use lib.Dec.{leb}
use lib.ListN.{length}
use Rattle.std.specs.Prelude.{Ok, Err}
use Rattle.pack.specs.Grid.{in_grid, read}
use Rattle.pack.specs.declared.TileKey.{TileKey}
use Rattle.pack.specs.declared.Header.{Header}
use Rattle.pack.proofs.Laws.{located}
use Rattle.cache.specs.Runs.{empty_slot, span}
use Rattle.cache.specs.Begin.{replaced}
use Rattle.cache.proofs.Below.{and_left, and_right}
use Rattle.cache.proofs.VictimLaws.{victim_is}
use Rattle.cache.specs.declared.Cache.{Cache}
use Rattle.cache.specs.declared.Got.{Got}
use Rattle.cache.specs.declared.Cleared.{Cleared}
use Rattle.cache.specs.declared.Lookup.{Lookup}
use Rattle.cache.specs.declared.next.Next.{Next}
use Rattle.cache.specs.Lookups.{run_bytes, passes, len_at, touched, next_step}
use Rattle.cache.specs.State.{cleared, lent_ok, cache_ok}
use Rattle.cache.specs.Calls as Cached
use Rattle.cache.specs.declared.Progress.TheVariants as Progress
use Rattle.cache.specs.Loads.{After, over, refused, fetched, read_len, takes, moved, forgot, dropped, further, chunk_len, stepped}
use Rattle.tile.specs.Parse.{accepts}
use Rattle.cache_lists.specs.Lists.{World, Call, capacity, loads, pages, get, fetch, load, load_from, clear, found, loaded, exec, Along}
use Rattle.cache_lists.specs.Claims.{Settles, Passed, HandedOut, reads_of, reads, bytes_of, TakesOnly, SameAt, SameFor, LentOnly, OfChunk, kind_of, MayWrite, Written, KeptBytes, LeavesShort, Safe}
use Rattle.cache_lists.proofs.Steps.{Gets, denied, ringed, unknown, handed, get_is, came_loading, came_key, came_next, Step, refuses, knows, uses, no_pages, fails, lacks, begins, goes_on, readies, spoils, load_is, from_is}
use Rattle.cache_lists.proofs.Inv.{sound_in, Inv, inv_short, inv_apart, inv_cleared, inv_touched, inv_forgot, inv_dropped, dropped_fewer, dropped_load, inv_began, inv_further, readied_freshly, inv_readied}
use Rattle.cache_lists.proofs.Stores.{get_d_same}
use Rattle.cache_lists.proofs.Live.{Freshly, fewer_freshly, fewer_then, replaced_fewer}
use Rattle.cache_lists.proofs.Settled.{Settled, ring_settled, touched_settled, forgot_settled, readied_settled}
use Rattle.cache_lists.proofs.Chunk.{not_written, chunk_only, put_written, bytes_kept}

-- ---- the invariant after a call

pub inv_got : {c : Cache} {arena : List ℕ} {h : Header} {key : TileKey} {r : Got} → Inv c → Gets c arena h key r → Inv r.cache
inv_got f (denied n s) = f
inv_got f (ringed e) = f
inv_got f unknown = f
inv_got {c} f (handed i e p) = inv_touched c i f

pub inv_step : {c : Cache} {arena : List ℕ} {h : Header} {key : TileKey} {failure : ℕ} {bs : List ℕ} {r : After}
    → Inv c → Step c arena h key failure bs r → Inv r.cache
inv_step f (refuses n s) = f
inv_step f (knows e) = f
inv_step {c} f (uses i e) = inv_touched c i f
inv_step {c} {key = key} f (no_pages e) = inv_forgot c key f
inv_step {c} f (fails n) = inv_dropped c f
inv_step {c} {key = key} f (lacks came s) = inv_forgot (dropped c) key (inv_dropped c f)
inv_step {c} {h = h} {key = key} {bs = bs} f (begins came offset len slot e s v) =
    inv_began (dropped c) slot key offset len (inv_dropped c f) (dropped_load c) (victim_is (dropped c).pages (span len) slot v).within (located h bs e).0 s
inv_step {c} f (goes_on l came b) = inv_further c l f (came_loading came) (l.done + chunk_len l) b
inv_step {c} f (readies l came b p) = inv_readied c l f (came_loading came) (came_next came)
inv_step {c} f (spoils l came b p) = inv_forgot (dropped c) l.key (inv_dropped c f)

-- `clear` clears, or is refused and leaves the state
pub clear_leaves : (R : Cache → Type 0) (c : Cache) (arena : List ℕ) → R (cleared c) → R c → R (Cached.clear c arena).cache
unfolding Cached.clear
clear_leaves R c arena r k = by (lent_ok c (length arena))
  where
    by : (t : Bool) → R (cond {A = Cleared} t (record { answer = Ok tt; cache = cleared c }) (record { answer = Err Refusal.BadState; cache = c })).cache
    by true = r
    by false = k

pub inv_call : (w : World) (c : Call) → Inv w.cache → Inv (exec c w).world.cache
unfolding exec
inv_call w capacity f = f
inv_call w loads f = f
inv_call w (pages h key) f = f
inv_call w (get h key) f = inv_got f (get_is w.cache w.arena h key)
inv_call w (fetch h key) f = f
inv_call w (load h key failure bs) f = inv_step f (load_is w.cache w.arena h key failure bs)
inv_call w (load_from h key pack) f = inv_step f (from_is w.cache w.arena h key pack).goes
inv_call w clear f = clear_leaves Inv w.cache w.arena (inv_cleared w.cache f) f

-- ---- each call is safe

handed_out_lem : {c : Cache} {arena : List ℕ} {h : Header} {key : TileKey} {r : Got} → Gets c arena h key r
    → (first len : ℕ) → found r.answer ≡ found (Ok (Lookup.Ready first len)) → Passed arena h key first len
unfolding passes
handed_out_lem (denied n s) first len q = let z : ◌≡◌ {A = ℕ} 0 1 = cc in absurd (omega arith)
handed_out_lem (ringed e) first len q = let z : ◌≡◌ {A = ℕ} 0 1 = cc in absurd (omega arith)
handed_out_lem unknown first len q = let z : ◌≡◌ {A = ℕ} 0 1 = cc in absurd (omega arith)
handed_out_lem {c} {arena} {h} {key} (handed i e p) first len q =
    let at : i ≡ first = cc in
    let long : len_at c i ≡ len = cc in
    let ok : (leb (first * 8192 + len) (length arena) && accepts (run_bytes arena first len) key h.tile) ≡ true = rw (long, at) at p in
    record {
      inside = leb-true (first * 8192 + len) (length arena) (and_left (leb (first * 8192 + len) (length arena)) _ ok);
      accepted = and_right (leb (first * 8192 + len) (length arena)) _ ok;
    }

pub handed_call : (w : World) (c : Call) → HandedOut w c
unfolding exec
handed_call w capacity = tt
handed_call w loads = tt
handed_call w (pages h key) = tt
handed_call w (get h key) = handed_out_lem (get_is w.cache w.arena h key)
handed_call w (fetch h key) = tt
handed_call w (load h key failure bs) = tt
handed_call w (load_from h key pack) = tt
handed_call w clear = tt

one_of : (x : Result (Option (ℕ × ℕ)) Refusal) → length (reads_of x) ≤ 1
one_of (Ok None) = omega arith
one_of (Err n) = omega arith
one_of (Ok (Some (offset, n))) = omega arith

pub one_read_lem : (w : World) (c : Call) → length (reads w c) ≤ 1
one_read_lem w capacity = omega arith
one_read_lem w loads = omega arith
one_read_lem w (pages h key) = omega arith
one_read_lem w (get h key) = omega arith
one_read_lem w (fetch h key) = one_of (Cached.fetch w.cache w.arena h key)
one_read_lem w (load h key failure bs) = one_of (Cached.fetch w.cache w.arena h key)
one_read_lem w (load_from h key pack) = one_of (Cached.fetch w.cache w.arena h key)
one_read_lem w clear = omega arith

module _ (c : Cache) (arena : List ℕ) (h : Header) (key : TileKey) where
  -- the bytes of the read that `fetch` tells are those that `load` takes
  read_len_lem : (n : Next) → bytes_of (reads_of (fetched c n arena h key)) ≡ read_len n
  read_len_lem (Next.Ready i) = by (passes arena i (len_at c i) key h.tile)
    where
      by : (t : Bool) → bytes_of (reads_of (cond t (Ok None) (Err Refusal.BadState))) ≡ 0
      by true = refl
      by false = refl
  read_len_lem Next.Missing = refl
  read_len_lem Next.NoPages = refl
  read_len_lem Next.Entry = refl
  read_len_lem (Next.Chunk l) = add-zero (chunk_len l)

  -- so a `load` that is not refused has them
  takes_only_lem : (bs : List ℕ) → number_of_result (Cached.load c arena h key 0 bs).answer ≡ 0 → length bs ≡ bytes_of (reads_of (Cached.fetch c arena h key))
  unfolding Cached.load Cached.fetch
  takes_only_lem bs e = by (cache_ok c h (length arena)) (takes (next_step c key) h key 0 (length bs)) (in_grid h key) refl refl e
    where
      left : Bool → Bool → Bool → After
      left ok t grid =
          cond ok
          (cond t (cond grid (stepped c (next_step c key) arena h key 0 bs) (over (refused c Refusal.OutsideGrid) arena)) (over (refused c Refusal.NotAsked) arena))
          (over (refused c Refusal.BadState) arena)

      by : (ok t grid : Bool) → takes (next_step c key) h key 0 (length bs) ≡ t → in_grid h key ≡ grid → number_of_result (left ok t grid).answer ≡ 0
          → length bs ≡ bytes_of (reads_of (cond ok (cond grid (fetched c (next_step c key) arena h key) (Err Refusal.OutsideGrid)) (Err Refusal.BadState)))
      by true true true t g e = eqb-true (length bs) (read_len (next_step c key)) (rw g at t) ∙ sym (read_len_lem (next_step c key))
      by true true false t g e = absurd (omega arith)
      by true false grid t g e = absurd (omega arith)
      by false t grid q g e = absurd (omega arith)

pub takes_call : (w : World) (c : Call) → TakesOnly w c
unfolding exec
takes_call w capacity = tt
takes_call w loads = tt
takes_call w (pages h key) = tt
takes_call w (get h key) = tt
takes_call w (fetch h key) = tt
takes_call w (load h key failure bs) = λ z e. takes_only_lem w.cache w.arena h key bs (rw z at e)
takes_call w (load_from h key pack) = tt
takes_call w clear = tt

-- what a lent pack has beside the read is not seen
module _ (c : Cache) (arena : List ℕ) (h : Header) (key : TileKey) (Q R : List ℕ) where
  read_only : (offset len : ℕ) → SameAt offset len Q R
      → Cached.load_by (read R offset len) c arena h key len R ≡ Cached.load_by (read Q offset len) c arena h key len Q
  unfolding read
  read_only offset len s = rw s.fits (by (leb (offset + len) (length Q)))
    where
      by : (t : Bool) → Cached.load_by (cond t (Ok offset) (Err Refusal.PastPack)) c arena h key len R
          ≡ Cached.load_by (cond t (Ok offset) (Err Refusal.PastPack)) c arena h key len Q
      by true = ap (λ (bs : List ℕ). Cached.load c arena h key 0 bs) s.bytes
      by false = refl

  load_only : SameFor (Cached.fetch c arena h key) Q R → Cached.load_from c arena h key R ≡ Cached.load_from c arena h key Q
  unfolding Cached.load_from
  load_only = by (Cached.fetch c arena h key)
    where
      by : (x : Result (Option (ℕ × ℕ)) Refusal) → SameFor x Q R → Cached.request_load x c arena h key R ≡ Cached.request_load x c arena h key Q
      by (Ok (Some (offset, len))) s = read_only offset len s
      by (Ok None) s = refl
      by (Err number) s = refl

pub lent_only_lem : (w : World) (c : Call) → LentOnly w c
unfolding exec
lent_only_lem w c h key Q R q s = ap loaded (load_only w.cache w.arena h key Q R s) ∙ ap (λ (x : Call). exec x w) (sym q)

-- only a chunk is written
pub written_step : {c : Cache} {arena : List ℕ} {h : Header} {key : TileKey} {failure : ℕ} {bs : List ℕ} {r : After}
    → Step c arena h key failure bs r → Written (OfChunk c.loading) arena r.arena
written_step {c} {arena} (refuses n s) = not_written _ arena
written_step {c} {arena} (knows e) = not_written _ arena
written_step {c} {arena} (uses i e) = not_written _ arena
written_step {c} {arena} (no_pages e) = not_written _ arena
written_step {c} {arena} (fails n) = not_written _ arena
written_step {c} {arena} (lacks came s) = not_written _ arena
written_step {c} {arena} (begins came offset len slot e s v) = not_written _ arena
written_step {arena = arena} {bs = bs} (goes_on l came b) = rw (came_loading came) (put_written l arena bs came.size)
written_step {arena = arena} {bs = bs} (readies l came b p) = rw (came_loading came) (put_written l arena bs came.size)
written_step {arena = arena} {bs = bs} (spoils l came b p) = rw (came_loading came) (put_written l arena bs came.size)

pub written_call : (w : World) (c : Call) → Written (MayWrite (kind_of c) w.cache) w.arena (exec c w).world.arena
unfolding exec
written_call w capacity = not_written _ w.arena
written_call w loads = not_written _ w.arena
written_call w (pages h key) = not_written _ w.arena
written_call w (get h key) = not_written _ w.arena
written_call w (fetch h key) = not_written _ w.arena
written_call w (load h key failure bs) = written_step (load_is w.cache w.arena h key failure bs)
written_call w (load_from h key pack) = written_step (from_is w.cache w.arena h key pack).goes
written_call w clear = not_written _ w.arena

-- ---- a key that is ready before and after has the same bytes

pub fresh_step : {c : Cache} {arena : List ℕ} {h : Header} {key : TileKey} {failure : ℕ} {bs : List ℕ} {r : After}
    → Inv c → Step c arena h key failure bs r → Freshly c.pages.slots r.cache.pages.slots
unfolding touched forgot moved further
fresh_step f (refuses n s) k i p = inl refl
fresh_step f (knows e) k i p = inl refl
fresh_step f (uses j e) k i p = inl refl
fresh_step f (no_pages e) k i p = inl refl
fresh_step {c} f (fails n) k i p = fewer_freshly c.pages.slots (dropped c).pages.slots (dropped_fewer c f) k i p
fresh_step {c} f (lacks came s) k i p = fewer_freshly c.pages.slots (dropped c).pages.slots (dropped_fewer c f) k i p
fresh_step {c} {key = key} f (begins came offset len slot e s v) k i p =
    let d : Inv (dropped c) = inv_dropped c f in
    fewer_freshly c.pages.slots (replaced (dropped c).pages slot key len).slots
    (fewer_then c.pages.slots (dropped c).pages.slots (replaced (dropped c).pages slot key len).slots (dropped_fewer c f)
    (replaced_fewer (dropped c).pages slot key len (sound_in (dropped c).pages d.pages) (victim_is (dropped c).pages (span len) slot v).within))
    k i p
fresh_step f (goes_on l came b) k i p = inl refl
fresh_step {c} f (readies l came b q) k i p = readied_freshly c l f (came_loading came) (came_next came) k i p
fresh_step {c} f (spoils l came b q) k i p = fewer_freshly c.pages.slots (dropped c).pages.slots (dropped_fewer c f) k i p

fresh_got : {c : Cache} {arena : List ℕ} {h : Header} {key : TileKey} {r : Got} → Gets c arena h key r → Freshly c.pages.slots r.cache.pages.slots
unfolding touched
fresh_got (denied n s) k i p = inl refl
fresh_got (ringed e) k i p = inl refl
fresh_got unknown k i p = inl refl
fresh_got (handed j e q) k i p = inl refl

-- nothing is ready once all is cleared
pub fresh_cleared : (c : Cache) → Freshly c.pages.slots (cleared c).pages.slots
unfolding cleared
fresh_cleared c k i p = absurd (true≢false (sym (rw (get_d_same 96 i empty_slot) at p.0)))

pub fresh_call : (w : World) (c : Call) → Inv w.cache → Freshly w.cache.pages.slots (exec c w).world.cache.pages.slots
unfolding exec
fresh_call w capacity f k i p = inl refl
fresh_call w loads f k i p = inl refl
fresh_call w (pages h key) f k i p = inl refl
fresh_call w (get h key) f k i p = fresh_got (get_is w.cache w.arena h key) k i p
fresh_call w (fetch h key) f k i p = inl refl
fresh_call w (load h key failure bs) f k i p = fresh_step f (load_is w.cache w.arena h key failure bs) k i p
fresh_call w (load_from h key pack) f k i p = fresh_step f (from_is w.cache w.arena h key pack).goes k i p
fresh_call w clear f k i p =
    clear_leaves (λ (d : Cache). Freshly w.cache.pages.slots d.pages.slots) w.cache w.arena (fresh_cleared w.cache) (λ k i p. inl refl) k i p

pub kept_bytes : (w : World) (c : Call) → Inv w.cache → KeptBytes w c
kept_bytes w c f =
    bytes_kept w.cache f w.arena (exec c w).world.arena (chunk_only (kind_of c) w.cache (written_call w c)) (exec c w).world.cache.pages.slots
    (fresh_call w c f)

-- a step that answers Done leaves its tile ready or known missing
settled_step : {c : Cache} {arena : List ℕ} {h : Header} {key : TileKey} {failure : ℕ} {bs : List ℕ} {r : After}
    → Inv c → Step c arena h key failure bs r → r.answer ≡ Ok Progress.Done → Settled r.cache key
settled_step f (refuses n s) q = let z : ◌≡◌ {A = ℕ} 0 1 = cc in absurd (omega arith)
settled_step {c} {key = key} f (knows e) q = ring_settled c key e
settled_step {c} {key = key} f (uses i e) q = touched_settled c i key e
settled_step {c} {key = key} f (no_pages e) q = forgot_settled c key f
settled_step f (fails n) q = let z : ◌≡◌ {A = ℕ} 0 1 = cc in absurd (omega arith)
settled_step {c} {key = key} f (lacks came s) q = forgot_settled (dropped c) key (inv_dropped c f)
settled_step f (begins came offset len slot e s v) q = let z : ◌≡◌ {A = ℕ} 0 1 = cc in absurd (omega arith)
settled_step f (goes_on l came b) q = let z : ◌≡◌ {A = ℕ} 0 1 = cc in absurd (omega arith)
settled_step {c} f (readies l came b p) q = rw (← came_key came) (readied_settled c l f (came_loading came))
settled_step {c} f (spoils l came b p) q = rw (← came_key came) (forgot_settled (dropped c) l.key (inv_dropped c f))

settled_call : (w : World) (c : Call) → Inv w.cache → Settles w c
unfolding exec
settled_call w capacity f = tt
settled_call w loads f = tt
settled_call w (pages h key) f = tt
settled_call w (get h key) f = tt
settled_call w (fetch h key) f = tt
settled_call w (load h key failure bs) f = λ e. settled_step f (load_is w.cache w.arena h key failure bs) cc
settled_call w (load_from h key pack) f = λ e. settled_step f (from_is w.cache w.arena h key pack).goes cc
settled_call w clear f = tt

-- after each call of a list the load is short
pub short_along : (cs : List Call) (w : World) → Inv w.cache → Along LeavesShort cs w
unfolding Along
short_along [] w f = tt
short_along (c ∷ cs) w f = let g : Inv (exec c w).world.cache = inv_call w c f in (inv_short (exec c w).world.cache g, short_along cs (exec c w).world g)

pub safe_along : (cs : List Call) (w : World) → Inv w.cache → Along Safe cs w
unfolding Along
safe_along [] w f = tt
safe_along (c ∷ cs) w f =
    let g : Inv (exec c w).world.cache = inv_call w c f in
    let safe : Safe w c = record {
      all_live = g.live;
      settles = settled_call w c f;
      apart = inv_apart (exec c w).world.cache g;
      handed_out = handed_call w c;
      one_read = one_read_lem w c;
      lent_only = lent_only_lem w c;
      takes_only = takes_call w c;
      written = written_call w c;
      kept = kept_bytes w c f;
    } in
    (safe, safe_along cs (exec c w).world g)
