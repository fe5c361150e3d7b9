-- Number 12's causes of the cache (`state_ok`) are kept, from any state that has none: by lookups, by a fetch opened or closed, by clearing and
-- by a key found missing. Neither these nor a step of a load change the page count (`stepped_count`). The idea: `state_ok` reads slots, count,
-- ring and load, and the open fetch by the next step, which reads the same.
use Prim.Native.Nat.{ℕ, ◌+◌, ◌%◌, ◌<◌, ◌≤◌}
use mathlib.Core.Path.{◌≡◌, refl, sym, ap, ◌∙◌}
use mathlib.Core.Bool.{Bool, true, false, cond, true≢false}
use mathlib.Core.List.{List, [], ◌∷◌}
use native.Mathlib.Omega.{arith}
use borrow.Author.Tests.{eqb-true, ltb-true, lt-ltb}
use lib.Dec.{eqb, ltb, leb}
use lib.ListN.{replicate, get_or-replicate}
use Rattle.std.specs.Prelude.{Option, Some, None, Result, Ok, Err}
use Rattle.refusal.specs.declared.Refusal.{Refusal}
use Rattle.pack.specs.Grid.{locate_of}
use Rattle.pack.specs.declared.TileKey.{TileKey}
use Rattle.pack.specs.declared.Header.{Header}
use Rattle.pack.proofs.Laws as Pack
use Rattle.pack.proofs.Laws.{and_left, and_right, clause}
use Rattle.cache.specs.declared.Pages.{Pages}
use Rattle.cache.specs.Runs.{span, empty_slot, page_ok}
use Rattle.cache.specs.Victim.{victim}
use Rattle.cache.specs.Begin.{replaced, begun_at}
use Rattle.cache.proofs.Below.{all_from}
use Rattle.cache.proofs.EvictLaws.{evicted_count}
use Rattle.cache.proofs.VictimLaws.{victim_is}
use Rattle.cache.specs.declared.Cache.{Cache}
use Rattle.cache.specs.declared.Loading.{Loading}
use Rattle.cache.specs.declared.Pending.{Pending}
use Rattle.cache.specs.declared.look.Landing.{Landing}
use Rattle.cache.specs.declared.next.Next.{Next}
use Rattle.cache.specs.Keys.{same_key, ready_at, forgotten}
use Rattle.cache.specs.Lookups.{lands_on, passes, len_at, touched, next_read, next_at, next_step}
use Rattle.cache.specs.State.{cleared, runs_ok, ring_ok, tile_loads, loads_ok, load_ok, is_entry, is_chunk, wants_chunk_of, pending_fits, pending_ok, state_ok}
use Rattle.cache.specs.Direct.{looked, Aged}
use Rattle.cache.proofs.LookLaws.{looked_aged}
use Rattle.cache.specs.declared.Loaded.{Loaded}
use Rattle.cache.specs.Loads.{After, over, refused, done, more, chunk_len, withdrawn, moved, forgot, without_run, dropped, new_load, began_at, began, located, entry_step, put, readied, ended, further, chunk_step, stepped}
use Rattle.cache.proofs.FromLaws.{next_chunk}
use Rattle.engine.specs.Deliver.{with_pending}

-- ---- the four causes, one by one

pub record CacheOk (c : Cache) : Type 0 where
  pub runs : runs_ok c ≡ true
  pub ring : ring_ok c ≡ true
  pub load : load_ok c ≡ true
  pub pending : pending_ok c ≡ true

pub ok_parts : (c : Cache) → state_ok c ≡ true → CacheOk c
unfolding state_ok
ok_parts c e =
    let all = runs_ok c ∷ ring_ok c ∷ load_ok c ∷ pending_ok c ∷ [] in
    record { runs = clause 0 all e; ring = clause 1 all e; load = clause 2 all e; pending = clause 3 all e }

pub ok_whole : (c : Cache) → CacheOk c → state_ok c ≡ true
unfolding state_ok
ok_whole c f = rw (f.runs, f.ring, f.load, f.pending)

-- ---- a state with the same slots, count, ring and load

module _ (c d : Cache) (slots : d.pages.slots ≡ c.pages.slots) (count : d.pages.count ≡ c.pages.count)
    (missing : d.missing ≡ c.missing) (loading : d.loading ≡ c.loading) where
  lands_same : (key : TileKey) → lands_on d key ≡ lands_on c key
  unfolding lands_on ready_at
  lands_same key = rw (missing, slots, count)

  at_same : (x : Landing) (key : TileKey) → next_at x d key ≡ next_at x c key
  at_same (Landing.At i) key = refl
  at_same Landing.Missing key = refl
  at_same Landing.Nothing key = rw (count, loading)

  next_same : (key : TileKey) → next_step d key ≡ next_step c key
  unfolding next_step
  next_same key = rw (lands_same key) (at_same (lands_on c key) key)

  chunk_same : (x : Option Loading) → wants_chunk_of x d ≡ wants_chunk_of x c
  chunk_same None = refl
  chunk_same (Some l) = ap is_chunk (next_same l.key)

  fits_same : (p : Pending) → pending_fits p d ≡ pending_fits p c
  fits_same Pending.Nothing = refl
  fits_same Pending.Header = refl
  fits_same (Pending.Entry key) = ap is_entry (next_same key)
  fits_same Pending.Chunk = ap (λ (x : Option Loading). wants_chunk_of x d) loading ∙ chunk_same c.loading

  loads_same : (x : Option Loading) → loads_ok d.pages x ≡ loads_ok c.pages x
  unfolding tile_loads
  loads_same None = refl
  loads_same (Some l) = rw slots

  same_ok : state_ok c ≡ true → pending_fits d.pending c ≡ true → state_ok d ≡ true
  same_ok e p =
      let f : CacheOk c = ok_parts c e in
      ok_whole d (record {
        runs = rw (count, slots) f.runs;
        ring = rw missing f.ring;
        load = rw loading (loads_same c.loading) ∙ f.load;
        pending = fits_same d.pending ∙ p;
      })

-- ---- lookups

pub aged_ok : (c d : Cache) → Aged c d → state_ok c ≡ true → state_ok d ≡ true
aged_ok c d a e = same_ok c d a.slots a.count a.missing a.loading e (rw a.pending (ok_parts c e).pending)

pub touched_ok : (c : Cache) (i : ℕ) → state_ok c ≡ true → state_ok (touched c i) ≡ true
unfolding touched
touched_ok c i e = same_ok c (touched c i) refl refl refl refl e (ok_parts c e).pending

pub looked_ok : (c : Cache) (arena : List ℕ) (size : ℕ) (keys : List TileKey) → state_ok c ≡ true → state_ok (looked c arena size keys) ≡ true
looked_ok c arena size keys e = aged_ok c (looked c arena size keys) (looked_aged arena size keys c) e

-- ---- a fetch opened or closed

-- an open fetch that the state makes
pub pending_ok_lem : (c : Cache) (p : Pending) → state_ok c ≡ true → pending_fits p c ≡ true → state_ok (with_pending c p) ≡ true
pending_ok_lem c p e q = same_ok c (with_pending c p) refl refl refl refl e q

pub pending_nothing : (c : Cache) → state_ok c ≡ true → state_ok (with_pending c Pending.Nothing) ≡ true
pending_nothing c e = pending_ok_lem c Pending.Nothing e refl

pub pending_header : (c : Cache) → state_ok c ≡ true → state_ok (with_pending c Pending.Header) ≡ true
pending_header c e = pending_ok_lem c Pending.Header e refl

pub pending_entry : (c : Cache) (key : TileKey) → state_ok c ≡ true → next_step c key ≡ Next.Entry → state_ok (with_pending c (Pending.Entry key)) ≡ true
pending_entry c key e n = pending_ok_lem c (Pending.Entry key) e (rw n)

-- a chunk is of the key that is stepped towards
module _ (key : TileKey) (l : Loading) where
  same_key_lem : (a : TileKey) → same_key a key ≡ true → a ≡ key
  same_key_lem a e =
      let row : a.row ≡ key.row = eqb-true a.row key.row (and_left (eqb a.row key.row) _ e) in
      let col : a.col ≡ key.col = eqb-true a.col key.col (and_right (eqb a.row key.row) _ e) in
      λ i. record { row = row i; col = col i }

  read_key : (t : Bool) → same_key l.key key ≡ t → cond t (Next.Chunk l) Next.Entry ≡ Next.Chunk l → l.key ≡ key
  read_key true s e = same_key_lem l.key s
  read_key false s e = absurd (true≢false (sym (ap is_chunk e)))

  at_key : (x : Landing) (c : Cache) → c.loading ≡ Some l → next_at x c key ≡ Next.Chunk l → l.key ≡ key
  at_key (Landing.At i) c q e = absurd (true≢false (sym (ap is_chunk e)))
  at_key Landing.Missing c q e = absurd (true≢false (sym (ap is_chunk e)))
  at_key Landing.Nothing c q e = by (eqb c.pages.count 0) (rw q at e)
    where
      by : (t : Bool) → cond t Next.NoPages (next_read (Some l) key) ≡ Next.Chunk l → l.key ≡ key
      by true e = absurd (true≢false (sym (ap is_chunk e)))
      by false e = read_key (same_key l.key key) refl e

  pub next_key : (c : Cache) → next_step c key ≡ Next.Chunk l → l.key ≡ key
  unfolding next_step
  next_key c e = at_key (lands_on c key) c (next_chunk key l c e) e

pub pending_chunk : (c : Cache) (key : TileKey) (l : Loading) → state_ok c ≡ true → next_step c key ≡ Next.Chunk l → state_ok (with_pending c Pending.Chunk) ≡ true
pending_chunk c key l e n =
    let own : next_step c l.key ≡ Next.Chunk l = ap (next_step c) (next_key key l c n) ∙ n in
    pending_ok_lem c Pending.Chunk e (ap (λ (x : Option Loading). wants_chunk_of x c) (next_chunk key l c n) ∙ ap is_chunk own)

-- ---- clearing

-- the count is at most 96
count_small : (c : Cache) → state_ok c ≡ true → leb c.pages.count 96 ≡ true
count_small c e = and_left (leb c.pages.count 96) _ (ok_parts c e).runs

empty_page : (count p : ℕ) → p < 96 → page_ok (replicate 96 empty_slot) count p ≡ true
empty_page count p h = rw (get_or-replicate 96 p empty_slot empty_slot h)

pub cleared_ok : (c : Cache) → state_ok c ≡ true → state_ok (cleared c) ≡ true
unfolding cleared
cleared_ok c e =
    let n = c.pages.count in
    ok_whole (cleared c) (record {
      runs = rw (count_small c e, all_from (page_ok (replicate 96 empty_slot) n) 96 (empty_page n));
      ring = (ok_parts c e).ring;
      load = refl;
      pending = refl;
    })

-- ---- a key found missing

-- every state makes what a change leaves open
pub withdrawn_fits : (p : Pending) (c : Cache) → pending_fits (withdrawn p) c ≡ true
withdrawn_fits Pending.Nothing c = refl
withdrawn_fits Pending.Header c = refl
withdrawn_fits (Pending.Entry key) c = refl
withdrawn_fits Pending.Chunk c = refl

pub forgot_ok : (c : Cache) (key : TileKey) → state_ok c ≡ true → state_ok (forgot c key) ≡ true
unfolding forgot forgotten
forgot_ok c key e =
    ok_whole (forgot c key) (record {
      runs = (ok_parts c e).runs;
      ring = lt-ltb ((c.missing.next + 1) % 64) 64 (omega arith);
      load = (ok_parts c e).load;
      pending = withdrawn_fits c.pending (forgot c key);
    })

-- ---- the page count stays

pub touched_count : (c : Cache) (i : ℕ) → (touched c i).pages.count ≡ c.pages.count
unfolding touched
touched_count c i = refl

pub looked_count : (c : Cache) (arena : List ℕ) (size : ℕ) (keys : List TileKey) → (looked c arena size keys).pages.count ≡ c.pages.count
looked_count c arena size keys = (looked_aged arena size keys c).count

pub cleared_count : (c : Cache) → (cleared c).pages.count ≡ c.pages.count
unfolding cleared
cleared_count c = refl

pub forgot_count : (c : Cache) (key : TileKey) → (forgot c key).pages.count ≡ c.pages.count
unfolding forgot
forgot_count c key = refl

without_count : (x : Option Loading) (g : Pages) → (without_run x g).count ≡ g.count
without_count None g = refl
without_count (Some l) g = evicted_count 1 l.slot g

pub dropped_count : (c : Cache) → (dropped c).pages.count ≡ c.pages.count
unfolding dropped moved
dropped_count c = without_count c.loading c.pages

-- ---- a step of a load

-- what a step of a load does to a state, each with what is then known of it
pub record Changes (Q : Cache → Type 0) : Type 0 where
  pub touch : (c : Cache) (i : ℕ) → Q c → Q (touched c i)
  pub forget : (c : Cache) (key : TileKey) → Q c → Q (forgot c key)
  pub drop : (c : Cache) → Q c → Q (dropped c)
  pub begin : (c : Cache) (slot : ℕ) (key : TileKey) (offset len : ℕ) → Q c → slot + span len ≤ c.pages.count → 0 < len
      → Q (moved c (replaced c.pages slot key len) (Some (new_load key slot offset len)))
  pub go : (c : Cache) (l : Loading) (come : ℕ) → Q c → c.loading ≡ Some l → come < l.len → Q (further c l come)
  pub ready : (c : Cache) (l : Loading) → Q c → c.loading ≡ Some l → Q (readied c l)

either : {A : Type 0} (P : A → Type 0) (t : Bool) (a b : A) → P a → P b → P (cond t a b)
either P true a b p q = p
either P false a b p q = q

-- what each of them keeps, a step keeps
module _ (Q : Cache → Type 0) (f : Changes Q) where
  abbrev In : Loaded → Type 0
  In x = Q x.cache

  begun_keeps : (x : Option ℕ) (c : Cache) (key : TileKey) (offset len : ℕ) → victim c.pages (span len) ≡ x → Q c → 0 < len
      → In (began_at (begun_at c.pages key len x).at c (begun_at c.pages key len x).pages key offset len)
  begun_keeps None c key offset len e q h = f.forget c key q
  begun_keeps (Some s) c key offset len e q h = f.begin c s key offset len q (victim_is c.pages (span len) s e).within h

  began_keeps : (c : Cache) (key : TileKey) (offset len : ℕ) → Q c → 0 < len → In (began c key offset len)
  unfolding began
  began_keeps c key offset len q h =
      either In (ltb 49152 len) _ _ (f.forget c key q) (begun_keeps (victim c.pages (span len)) c key offset len refl q h)

  located_keeps : (x : Result (Option (ℕ × ℕ)) Refusal) (c : Cache) (h : Header) (key : TileKey) (bs : List ℕ) → locate_of h bs ≡ x → Q c → In (located x c key)
  located_keeps (Ok None) c h key bs e q = f.forget c key q
  located_keeps (Err number) c h key bs e q = q
  located_keeps (Ok (Some (offset, len))) c h key bs e q = began_keeps c key offset len q (Pack.located h bs e).0

  entry_keeps : (c : Cache) (h : Header) (key : TileKey) (failure : ℕ) (bs : List ℕ) → Q c → In (entry_step c h key failure bs)
  unfolding entry_step
  entry_keeps c h key failure bs q =
      either In (eqb failure 0) _ _ (located_keeps (locate_of h bs) (dropped c) h key bs refl (f.drop c q)) (f.drop c q)

  module _ (c : Cache) (l : Loading) (q : Q c) (e : c.loading ≡ Some l) where
    ended_keeps : (arena : List ℕ) (size : ℕ) → Q (ended c arena l size)
    unfolding ended
    ended_keeps arena size =
        either Q (passes arena l.slot l.len l.key size) _ _ (f.ready c l q e) (f.forget (dropped c) l.key (f.drop c q))

    came_by : (arena : List ℕ) (size come : ℕ) (t : Bool) → ltb come l.len ≡ t
        → Q (cond t (over (more (further c l come)) arena) (over (done (ended c arena l size)) arena)).cache
    came_by arena size come true h = f.go c l come q e (ltb-true come l.len h)
    came_by arena size come false h = ended_keeps arena size

    chunk_keeps : (arena : List ℕ) (size failure : ℕ) (bs : List ℕ) → Q (chunk_step c l arena size failure bs).cache
    unfolding chunk_step
    chunk_keeps arena size failure bs =
        let come = l.done + chunk_len l in
        either (λ (x : After). Q x.cache) (eqb failure 0) _ _
        (came_by (put arena l.slot l.done bs) size come (ltb come l.len) refl) (f.drop c q)

  pub step_keeps : (c : Cache) (arena : List ℕ) (h : Header) (key : TileKey) (failure : ℕ) (bs : List ℕ) → Q c
      → Q (stepped c (next_step c key) arena h key failure bs).cache
  step_keeps c arena h key failure bs q = by (next_step c key) refl
    where
      by : (n : Next) → next_step c key ≡ n → Q (stepped c n arena h key failure bs).cache
      by (Next.Ready i) e = either In (passes arena i (len_at c i) key h.tile) (done (touched c i)) (refused c Refusal.BadState) (f.touch c i q) q
      by Next.Missing e = q
      by Next.NoPages e = f.forget c key q
      by Next.Entry e = entry_keeps c h key failure bs q
      by (Next.Chunk l) e = chunk_keeps c l q (next_chunk key l c e) arena h.tile failure bs

counts : (n : ℕ) → Changes (λ (c : Cache). c.pages.count ≡ n)
unfolding touched forgot moved further readied
counts n = record {
  touch = λ (c : Cache) (i : ℕ) (q : c.pages.count ≡ n). q;
  forget = λ (c : Cache) (key : TileKey) (q : c.pages.count ≡ n). q;
  drop = λ (c : Cache) (q : c.pages.count ≡ n). dropped_count c ∙ q;
  begin = λ (c : Cache) (slot : ℕ) (key : TileKey) (offset len : ℕ) (q : c.pages.count ≡ n) (b : slot + span len ≤ c.pages.count) (h : 0 < len).
      evicted_count (span len) slot c.pages ∙ q;
  go = λ (c : Cache) (l : Loading) (come : ℕ) (q : c.pages.count ≡ n) (e : c.loading ≡ Some l) (h : come < l.len). q;
  ready = λ (c : Cache) (l : Loading) (q : c.pages.count ≡ n) (e : c.loading ≡ Some l). q;
}

pub stepped_count : (c : Cache) (arena : List ℕ) (h : Header) (key : TileKey) (failure : ℕ) (bs : List ℕ)
    → (stepped c (next_step c key) arena h key failure bs).cache.pages.count ≡ c.pages.count
stepped_count c arena h key failure bs =
    step_keeps (λ (d : Cache). d.pages.count ≡ c.pages.count) (counts c.pages.count) c arena h key failure bs refl
