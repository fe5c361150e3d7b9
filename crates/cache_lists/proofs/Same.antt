-- Under the premises of one pack: the invariant holds along every list of fair calls, `get` answers as the direct lookup, and no call is
-- refused with 12 while the arena holds the pages. By the ways that a call goes.
use Rattle.std.specs.Prelude.{Some, None, Ok, Err}
use Rattle.refusal.specs.Refusal.{number_of, number_of_result}
use Prim.Native.Nat.{ℕ, ◌+◌, ◌*◌, ◌≤◌}
use mathlib.Core.Path.{◌≡◌, refl, sym, ◌∙◌}
use mathlib.Core.Bool.{Bool, true, false, cond, true≢false}
use mathlib.Core.List.{List, [], ◌∷◌}
use mathlib.Core.Logic.{⊎_elim}
use native.Mathlib.Omega.{arith}
use borrow.Author.Tests.{le-leb}
use lib.ListN.{length, take, drop}
use Rattle.std.specs.Prelude.{Option, Result}
use Rattle.refusal.specs.declared.Refusal.{Refusal}
use Rattle.pack.specs.Sector.{rules, parse, header_in}
use Rattle.pack.specs.Grid.{in_grid, entry_of, locate_of}
use Rattle.pack.specs.declared.TileKey.{TileKey}
use Rattle.pack.specs.declared.Header.{Header}
use Rattle.pack.proofs.Laws.{parse_accepted, located}
use Rattle.cache.specs.Runs.{span}
use Rattle.cache.proofs.Below.{below_or}
use Rattle.cache.proofs.RunLaws.{span_holds, inside}
use Rattle.cache.proofs.VictimLaws.{victim_there, victim_is}
use Rattle.cache.specs.declared.Cache.{Cache}
use Rattle.cache.specs.declared.Got.{Got}
use Rattle.cache.specs.declared.Lookup.{Lookup}
use Rattle.cache.specs.declared.Loading.{Loading}
use Rattle.cache.specs.declared.next.Next.{Next}
use Rattle.cache.specs.Keys.{ready_at}
use Rattle.cache.specs.Lookups.{pages_of, passes, len_at, touched}
use Rattle.cache.specs.declared.Pending.{Pending}
use Rattle.cache.specs.State.{cleared, lent_ok, entry_in, cache_ok}
use Rattle.cache.specs.Direct.{missing, direct_at, direct}
use Rattle.cache.specs.Calls as Cached
use Rattle.cache.specs.Loads.{After, fetched, withdrawn, moved, forgot, dropped, chunk_len, readied, further}
use Rattle.cache_lists.specs.Lists.{World, Call, capacity, loads, pages, get, fetch, load, load_from, clear, found, exec, Along}
use Rattle.cache_lists.specs.Claims.{Parsed, FairBytes, Fair, SameLook, SameAs, Open}
use Rattle.cache_lists.proofs.Lookups.{in_ring_lem, ReadyAt, ready_at_lem, found_run, next_is}
use Rattle.cache_lists.proofs.Steps.{Cause, named, unasked, outside, stale, Gets, denied, ringed, unknown, handed, get_is, Came, came_loading, came_next, came_holds, Lacks, none, long, wide, Step, refuses, knows, uses, no_pages, fails, lacks, begins, goes_on, readies, spoils, load_is, fetch_came, FetchIs, fetch_is, From, from_is}
use Rattle.cache_lists.proofs.Inv.{sound_in, Inv, inv_ok, dropped_load}
use Rattle.cache_lists.proofs.Safe.{clear_leaves, written_call}
use Rattle.cache_lists.proofs.Direct.{direct-ready, direct_none, direct_entry, at_long, at_wide, at_tile}
use Rattle.cache_lists.proofs.Kept.{Kept, kept_cleared, kept_touched, kept_forgot, kept_dropped, kept_began, kept_further, kept_readied, kept_spoiled}

-- ---- one call over the pack's header

module _ (P : List ℕ) (h : Header) (n : ℕ) (key : TileKey) where
  -- what the cache can't hold, the direct lookup doesn't find
  lacks_missing : {d : Cache} {x : Result (Option (ℕ × ℕ)) Refusal} → Inv d → d.pages.count ≡ n → Lacks d x → direct_at x P h n key ≡ missing
  lacks_missing f e none = refl
  lacks_missing f e (long offset len s) = at_long P h n key offset len s
  lacks_missing {d} f e (wide offset len v) =
      ⊎_elim
      (λ b. at_wide P h n key offset len (rw e at b))
      (λ b. let s = victim_there d.pages (span len) f.pages.small b in let z : ◌≡◌ {A = ℕ} 0 1 = cc in absurd (omega arith))
      (below_or d.pages.count (span len))

  module _ (c : Cache) (arena : List ℕ) (k : Kept P h n c arena) where
    pub kept_got : {r : Got} → Gets c arena h key r → Kept P h n r.cache arena
    kept_got (denied number s) = k
    kept_got (ringed e) = k
    kept_got unknown = k
    kept_got (handed i e p) = kept_touched P h n c arena i k

    module _ (failure : ℕ) (bs : List ℕ) (fair : failure ≡ 0 → FairBytes P (Cached.fetch c arena h key) bs) where
      fair_came : {next : Next} → Came c arena h key failure bs next → FairBytes P (fetched c next arena h key) bs
      fair_came came = rw (fetch_came c arena h key came) at (fair came.whole)

      -- by the entry that came
      by_entry : Came c arena h key failure bs Next.Entry → direct P h n key ≡ direct_at (locate_of h bs) P h n key
      by_entry came =
          let e : (entry_of h key + 8 ≤ length P) × (bs ≡ take 8 (drop (entry_of h key) P)) = fair_came came came.size in
          let some : c.pages.count ≡ 0 → ⊥ = rw came.is at (next_is c key) in
          rw e.1 (direct_entry P h n key (λ z. some (k.count ∙ z)) came.grid e.0)

      -- the chunk that came is the pack's
      chunk_fair : {l : Loading} → Came c arena h key failure bs (Next.Chunk l)
          → (l.offset + l.done + chunk_len l ≤ length P) × (bs ≡ take (chunk_len l) (drop (l.offset + l.done) P))
      chunk_fair came = fair_came came came.size

      pub kept_step : {r : After} → Step c arena h key failure bs r → Kept P h n r.cache r.arena
      kept_step (refuses number s) = k
      kept_step (knows e) = k
      kept_step (uses i e) = kept_touched P h n c arena i k
      kept_step (no_pages e) = kept_forgot P h n c arena key (direct_none P h n key (sym k.count ∙ e)) k
      kept_step (fails number) = kept_dropped P h n c arena k
      kept_step (lacks came s) =
          let d : Kept P h n (dropped c) arena = kept_dropped P h n c arena k in
          kept_forgot P h n (dropped c) arena key (by_entry came ∙ lacks_missing d.inv d.count s) d
      kept_step (begins came offset len slot e s v) =
          let d : Kept P h n (dropped c) arena = kept_dropped P h n c arena k in
          let fits : slot + span len ≤ (dropped c).pages.count = (victim_is (dropped c).pages (span len) slot v).within in
          kept_began P h n (dropped c) arena slot key offset len d (dropped_load c) fits (located h bs e).0 s
          (by_entry came ∙ rw e (at_tile P h n key offset len s (omega (arith, d.count))))
      kept_step (goes_on l came b) =
          kept_further P h n c arena l bs k (came_loading came) (came_holds came) came.size (chunk_fair came).0 (chunk_fair came).1 b
      kept_step (readies l came b p) =
          kept_readied P h n c arena l bs k (came_loading came) (came_holds came) came.size (chunk_fair came).0 (chunk_fair came).1 b (came_next came) p
      kept_step (spoils l came b p) =
          kept_spoiled P h n c arena l bs k (came_loading came) (came_holds came) came.size (chunk_fair came).0 (chunk_fair came).1 b p

    -- ---- the same as the direct lookup

    pub same_got : {r : Got} → Gets c arena h key r → SameLook arena r.answer (direct P h n key)
    same_got (denied number s) = tt
    same_got (ringed e) = in_ring_lem c.missing key e (λ (i : ℕ). k.ring i key)
    same_got unknown = tt
    same_got (handed i e p) = let r : ReadyAt c.pages key i = ready_at_lem c.pages key i e in k.slots i key r.ready r.key_is

    -- ---- not refused with 12

    module _ (ok : rules h ≡ true) (holds : n * 8192 ≤ length arena) where
      -- a ready run lies in the arena and holds what the direct lookup gives, so it passes
      pub kept_passes : (i : ℕ) → ready_at c.pages key ≡ Some i → passes arena i (len_at c i) key h.tile ≡ true
      unfolding passes
      kept_passes i e =
          let r : ReadyAt c.pages key i = ready_at_lem c.pages key i e in
          let end = inside c.pages.slots c.pages.count k.inv.pages.good i (found_run c.pages (sound_in c.pages k.inv.pages) key i e) in
          rw (le-leb (i * 8192 + len_at c i) (length arena) (omega (arith, end, span_holds (len_at c i), k.count)))
          (direct-ready P h n key _ (k.slots i key r.ready r.key_is))

      -- an open entry is in the header's grid
      module _ (entry : entry_in c.pending h ≡ true) where
        pub kept_ok : cache_ok c h (length arena) ≡ true
        unfolding cache_ok
        kept_ok = rw (inv_ok c k.inv, ok, entry, k.count) (le-leb (n * 8192) (length arena) holds)

        pub not_12 : {e : Refusal} → Cause c arena h key e → number_of e ≡ 12 → ⊥
        not_12 (named e) z = true≢false (sym kept_ok ∙ e)
        not_12 unasked z = omega arith
        not_12 outside z = omega arith
        not_12 (stale i e p) z = true≢false (sym (kept_passes i e) ∙ p)

        open_got : {r : Got} → Gets c arena h key r → number_of_result r.answer ≡ 12 → ⊥
        open_got (denied number s) z = not_12 s z
        open_got (ringed e) z = omega arith
        open_got unknown z = omega arith
        open_got (handed i e p) z = omega arith

        pub open_fetch : (x : Result (Option (ℕ × ℕ)) Refusal) → FetchIs c arena h key x → number_of_result x ≡ 12 → ⊥
        open_fetch (Ok None) f z = omega arith
        open_fetch (Ok (Some (offset, len))) f z = omega arith
        open_fetch (Err number) f z = not_12 f z

        pub open_step : {failure : ℕ} {bs : List ℕ} {r : After} → Step c arena h key failure bs r → number_of_result r.answer ≡ 12 → ⊥
        open_step (refuses number s) z = not_12 s z
        open_step (knows e) z = omega arith
        open_step (uses i e) z = omega arith
        open_step (no_pages e) z = omega arith
        open_step (fails number) z = omega arith
        open_step (lacks came s) z = omega arith
        open_step (begins came offset len slot e s v) z = omega arith
        open_step (goes_on l came b) z = omega arith
        open_step (readies l came b p) z = omega arith
        open_step (spoils l came b p) z = omega arith

-- ---- an open entry: no call opens one, and one that a step does not end stays

withdrawn_in : (p : Pending) (h : Header) → entry_in (withdrawn p) h ≡ true
withdrawn_in Pending.Nothing h = refl
withdrawn_in Pending.Header h = refl
withdrawn_in (Pending.Entry key) h = refl
withdrawn_in Pending.Chunk h = refl

module _ (g : Header) where
  -- in the grid of g
  abbrev pub EntryIn : Cache → Type 0
  EntryIn c = entry_in c.pending g ≡ true

  entry_got : {c : Cache} {arena : List ℕ} {h : Header} {key : TileKey} {r : Got} → EntryIn c → Gets c arena h key r → EntryIn r.cache
  unfolding touched
  entry_got o (denied number s) = o
  entry_got o (ringed e) = o
  entry_got o unknown = o
  entry_got o (handed i e p) = o

  entry_step : {c : Cache} {arena : List ℕ} {h : Header} {key : TileKey} {failure : ℕ} {bs : List ℕ} {r : After}
      → EntryIn c → Step c arena h key failure bs r → EntryIn r.cache
  unfolding touched forgot moved dropped further readied
  entry_step o (refuses number s) = o
  entry_step o (knows e) = o
  entry_step o (uses i e) = o
  entry_step {c} o (no_pages e) = withdrawn_in c.pending g
  entry_step {c} o (fails number) = withdrawn_in c.pending g
  entry_step {c} o (lacks came s) = withdrawn_in (withdrawn c.pending) g
  entry_step {c} o (begins came offset len slot e s v) = withdrawn_in (withdrawn c.pending) g
  entry_step {c} o (goes_on l came b) = withdrawn_in c.pending g
  entry_step {c} o (readies l came b p) = withdrawn_in c.pending g
  entry_step {c} o (spoils l came b p) = withdrawn_in (withdrawn c.pending) g

  cleared_in : (c : Cache) → EntryIn (cleared c)
  unfolding cleared
  cleared_in c = refl

  entry_call : (w : World) (c : Call) → EntryIn w.cache → EntryIn (exec c w).world.cache
  unfolding exec
  entry_call w capacity o = o
  entry_call w loads o = o
  entry_call w (pages h key) o = o
  entry_call w (get h key) o = entry_got o (get_is w.cache w.arena h key)
  entry_call w (fetch h key) o = o
  entry_call w (load h key failure bs) o = entry_step o (load_is w.cache w.arena h key failure bs)
  entry_call w (load_from h key pack) o = entry_step o (from_is w.cache w.arena h key pack).goes
  entry_call w clear o = clear_leaves EntryIn w.cache w.arena (cleared_in w.cache) o

-- ---- a list of calls

pub header_is : {P : List ℕ} {h : Header} → Parsed P h → header_in (parse (take 512 P)) ≡ h
header_is p = rw p.parses

module _ (P : List ℕ) (n : ℕ) where
  -- with the pack's header, which is the one that each call is given
  abbrev pub KeptIn : World → Type 0
  KeptIn w = Kept P (header_in (parse (take 512 P))) n w.cache w.arena

  pub given : {w : World} {h : Header} → Parsed P h → KeptIn w → Kept P h n w.cache w.arena
  given p k = rw (header_is p) at k

  pub parsed_rules : {h : Header} → Parsed P h → rules h ≡ true
  parsed_rules p = (parse_accepted (take 512 P) p.parses).0

  pub kept_call : (w : World) (c : Call) → KeptIn w → Fair P w c → KeptIn (exec c w).world
  unfolding exec
  kept_call w capacity k f = k
  kept_call w loads k f = k
  kept_call w (pages h key) k f = k
  kept_call w (get h key) k f = rw (header_is f) (kept_got P h n key w.cache w.arena (given f k) (get_is w.cache w.arena h key))
  kept_call w (fetch h key) k f = k
  kept_call w (load h key failure bs) k f =
      rw (header_is f.0) (kept_step P h n key w.cache w.arena (given f.0 k) failure bs f.1 (load_is w.cache w.arena h key failure bs))
  kept_call w (load_from h key Q) k f =
      let r : From w.cache w.arena h key Q (Cached.load_from w.cache w.arena h key Q) = from_is w.cache w.arena h key Q in
      rw (header_is f.0) (kept_step P h n key w.cache w.arena (given f.0 k) r.failure r.bytes (r.fair P f.1) r.goes)
  kept_call w clear k f =
      clear_leaves (λ (c : Cache). Kept P (header_in (parse (take 512 P))) n c w.arena) w.cache w.arena (kept_cleared P _ n w.cache w.arena k) k

  same_call : (w : World) (c : Call) → KeptIn w → Fair P w c → SameAs P n w c
  unfolding exec
  same_call w capacity k f = tt
  same_call w loads k f = tt
  same_call w (pages h key) k f = tt
  same_call w (get h key) k f = λ (l : Result Lookup Refusal) (e : found (Cached.get w.cache w.arena h key).answer ≡ found l).
      let is : (Cached.get w.cache w.arena h key).answer ≡ l = cc in
      rw is at (same_got P h n key w.cache w.arena (given f k) (get_is w.cache w.arena h key))
  same_call w (fetch h key) k f = tt
  same_call w (load h key failure bs) k f = tt
  same_call w (load_from h key Q) k f = tt
  same_call w clear k f = tt

  pub same_along : (cs : List Call) (w : World) → KeptIn w → Along (Fair P) cs w → Along (SameAs P n) cs w
  unfolding Along
  same_along [] w k f = tt
  same_along (c ∷ cs) w k f = (same_call w c k f.0, same_along cs (exec c w).world (kept_call w c k f.0) f.1)

  -- the state with the arena, without a header and with one
  module _ (w : World) (k : KeptIn w) (holds : n * 8192 ≤ length w.arena) (entry : EntryIn (header_in (parse (take 512 P))) w.cache) where
    pub lent_is : lent_ok w.cache (length w.arena) ≡ true
    unfolding lent_ok
    lent_is = rw (inv_ok w.cache k.inv, k.count) (le-leb (n * 8192) (length w.arena) holds)

    entry_of_lem : {h : Header} → Parsed P h → entry_in w.cache.pending h ≡ true
    entry_of_lem p = rw (header_is p) at entry

    open_pages : (h : Header) (key : TileKey) → Parsed P h → number_of_result (Cached.pages w.cache w.arena h key) ≡ 12 → ⊥
    unfolding Cached.pages
    open_pages h key p = rw (kept_ok P h n key w.cache w.arena (given p k) (parsed_rules p) holds (entry_of_lem p)) (by (in_grid h key))
      where
        by : (t : Bool) → number_of_result (cond t (Ok (pages_of w.cache.pages key)) (Err Refusal.OutsideGrid)) ≡ 12 → ⊥
        by true z = omega arith
        by false z = omega arith

    pub open_call : (c : Call) → Fair P w c → Open w c
    unfolding exec Cached.capacity Cached.loads Cached.clear
    open_call capacity f = rw lent_is (λ z. omega arith)
    open_call loads f = rw lent_is (λ z. omega arith)
    open_call (pages h key) f = open_pages h key f
    open_call (get h key) f = open_got P h n key w.cache w.arena (given f k) (parsed_rules f) holds (entry_of_lem f) (get_is w.cache w.arena h key)
    open_call (fetch h key) f =
        open_fetch P h n key w.cache w.arena (given f k) (parsed_rules f) holds (entry_of_lem f) (Cached.fetch w.cache w.arena h key)
        (fetch_is w.cache w.arena h key)
    open_call (load h key failure bs) f =
        open_step P h n key w.cache w.arena (given f.0 k) (parsed_rules f.0) holds (entry_of_lem f.0) (load_is w.cache w.arena h key failure bs)
    open_call (load_from h key Q) f =
        open_step P h n key w.cache w.arena (given f.0 k) (parsed_rules f.0) holds (entry_of_lem f.0) (from_is w.cache w.arena h key Q).goes
    open_call clear f = rw lent_is (λ z. omega arith)

  pub open_along : (cs : List Call) (w : World) → KeptIn w → n * 8192 ≤ length w.arena → EntryIn (header_in (parse (take 512 P))) w.cache
      → Along (Fair P) cs w → Along Open cs w
  unfolding Along
  open_along [] w k holds entry f = tt
  open_along (c ∷ cs) w k holds entry f = (
    open_call w k holds entry c f.0,
    open_along cs (exec c w).world (kept_call w c k f.0) (rw (written_call w c).size holds) (entry_call _ w c entry) f.1,
  )
