-- The causes that a lookup, a read or an entry brings: which they are by the next step towards a tile.
use Prim.Native.Nat.{ℕ, zero, suc, ◌+◌, ◌<◌}
use mathlib.Core.Path.{◌≡◌, refl, sym, ◌∙◌}
use mathlib.Core.Bool.{Bool, true, false, not, ◌&&◌, ◌||◌, cond, true≢false}
use mathlib.Core.List.{List, [], ◌∷◌}
use native.Mathlib.Omega.{arith}
use lib.Dec.{eqb, ltb, leb}
use lib.ListN.{length}
use borrow.Author.Tests.{eqb-true, ltb-false}
use Rattle.std.specs.Prelude.{Option, Some, None, Result, Ok, Err}
use Rattle.refusal.specs.declared.Refusal.{Refusal}
use Rattle.pack.specs.Bytes.{u32_at}
use Rattle.pack.specs.Offsets as At
use Rattle.pack.specs.Grid.{in_grid, locate_of, entry_of}
use Rattle.refusal.specs.Refusal.{number_of, number_of_result}
use Rattle.pack.specs.declared.Header.{Header}
use Rattle.pack.specs.declared.TileKey.{TileKey}
use Rattle.cache.specs.Begin.{begun}
use Rattle.cache.specs.Keys.{same_key}
use Rattle.cache.specs.Lookups.{lands_on, touched, passes, len_at, got_ready, got_at, got, next_read, next_at, next_step}
use Rattle.cache.specs.Direct.{ready, stale, look, look_at}
use Rattle.cache.specs.Loads.{missed, After, over, refused, failed, done, forgot, fetched, read_len, fits, takes, began_at, began, located, entry_step, chunk_len, chunk_step, stepped, stepped_from, dropped, pack_bytes}
use Rattle.cache.specs.Calls.{got_nothing, load_from, fetch}
use Rattle.cache.specs.State.{cache_ok}
use Rattle.cache.specs.Numbers.{number_of_progress}
use Rattle.cache.specs.declared.Cache.{Cache}
use Rattle.cache.specs.declared.Loaded.{Loaded}
use Rattle.cache.specs.declared.Loading.{Loading}
use Rattle.cache.specs.declared.Pages.{Pages}
use Rattle.cache.specs.declared.look.Landing.{Landing}
use Rattle.cache.specs.declared.next.Next.{Next}
use Rattle.cache.proofs.FromLaws.{from_steps}
use Rattle.refusals.specs.Causes.{Cause, ◌unless◌, first_of, Refuses, NothingMore}
use Rattle.refusal.specs.declared.Refusal.TheVariants.{Media, PastPack, Corrupt}
use Rattle.refusals.specs.Refusals.{entry_inside, entry_read, still_passes, in_pack}

-- ---- an entry

abbrev outside : Result (Option (ℕ × ℕ)) Refusal
outside = Err Refusal.Corrupt

abbrev located_by : Bool → Bool → ℕ → ℕ → Result (Option (ℕ × ℕ)) Refusal
located_by none inside offset len = cond none (Ok None) (cond inside (Ok (Some (offset, len))) outside)

pub entry_refused : (h : Header) (e : List ℕ) → locate_of h e ≡ cond (entry_inside h e) (locate_of h e) outside
unfolding locate_of
entry_refused h e =
    by (eqb (u32_at e At.length_at) 0) (leb h.«data» (u32_at e At.offset_at) && leb (u32_at e At.offset_at + u32_at e At.length_at) h.total)
  where
    by : (a b : Bool) → located_by a b (u32_at e At.offset_at) (u32_at e At.length_at) ≡ cond (a || b) (located_by a b (u32_at e At.offset_at) (u32_at e At.length_at)) outside
    by true b = refl
    by false true = refl
    by false false = refl

pub entry_number : (h : Header) (e : List ℕ) → entry_inside h e ≡ true → number_of_result (locate_of h e) ≡ 0
unfolding locate_of
entry_number h e =
    by (eqb (u32_at e At.length_at) 0) (leb h.«data» (u32_at e At.offset_at) && leb (u32_at e At.offset_at + u32_at e At.length_at) h.total)
  where
    by : (a b : Bool) → (a || b) ≡ true → number_of_result (located_by a b (u32_at e At.offset_at) (u32_at e At.length_at)) ≡ 0
    by true b i = refl
    by false true i = refl
    by false false i = absurd (true≢false (sym i))

-- ---- a lookup

module _ (c : Cache) (arena : List ℕ) (size : ℕ) (k : TileKey) where
  pub got_refused : got c arena size k ≡ cond (still_passes (look c arena size k)) (got c arena size k) (got_nothing c Refusal.BadState)
  unfolding got look
  got_refused = by (lands_on c k)
    where
      run : (i : ℕ) (t : Bool) (bs : List ℕ) → got_ready t c i ≡ cond (still_passes (cond t (ready bs) stale)) (got_ready t c i) (got_nothing c Refusal.BadState)
      run i true bs = refl
      run i false bs = refl

      by : (x : Landing) → got_at x c arena size k ≡ cond (still_passes (look_at x c.pages.slots arena size k)) (got_at x c arena size k) (got_nothing c Refusal.BadState)
      by Landing.Missing = refl
      by Landing.Nothing = refl
      by (Landing.At i) = run i (passes arena i (len_at c i) k size) _

  pub got_number : still_passes (look c arena size k) ≡ true → number_of_result (got c arena size k).answer ≡ 0
  unfolding got look
  got_number = by (lands_on c k)
    where
      run : (i : ℕ) (t : Bool) (bs : List ℕ) → still_passes (cond t (ready bs) stale) ≡ true → number_of_result (got_ready t c i).answer ≡ 0
      run i true bs e = refl
      run i false bs e = absurd (true≢false (sym e))

      by : (x : Landing) → still_passes (look_at x c.pages.slots arena size k) ≡ true → number_of_result (got_at x c arena size k).answer ≡ 0
      by Landing.Missing e = refl
      by Landing.Nothing e = refl
      by (Landing.At i) e = run i (passes arena i (len_at c i) k size) _ e

  -- ---- by the next step towards the tile

  abbrev pub next_passes : Next → Bool
  next_passes (Next.Ready i) = passes arena i (len_at c i) k size
  next_passes Next.Missing = true
  next_passes Next.NoPages = true
  next_passes Next.Entry = true
  next_passes (Next.Chunk l) = true

  pub still_next : still_passes (look c arena size k) ≡ next_passes (next_step c k)
  unfolding look next_step
  still_next = by (lands_on c k)
    where
      run : (t : Bool) (bs : List ℕ) → still_passes (cond t (ready bs) stale) ≡ t
      run true bs = refl
      run false bs = refl

      own : (t : Bool) (l : Loading) → true ≡ next_passes (cond t (Next.Chunk l) Next.Entry)
      own true l = refl
      own false l = refl

      read : (m : Option Loading) → true ≡ next_passes (next_read m k)
      read None = refl
      read (Some l) = own (same_key l.key k) l

      none : (t : Bool) → true ≡ next_passes (cond t Next.NoPages (next_read c.loading k))
      none true = refl
      none false = read c.loading

      by : (x : Landing) → still_passes (look_at x c.pages.slots arena size k) ≡ next_passes (next_at x c k)
      by Landing.Missing = refl
      by Landing.Nothing = none (eqb c.pages.count 0)
      by (Landing.At i) = run (passes arena i (len_at c i) k size) _

-- ---- a step of a load

module _ (c : Cache) (arena : List ℕ) (h : Header) (k : TileKey) where
  pub fetched_refused : (n : Next) → fetched c n arena h k ≡ cond (next_passes c arena h.tile k n) (fetched c n arena h k) (Err Refusal.BadState)
  fetched_refused (Next.Ready i) = by (passes arena i (len_at c i) k h.tile)
    where
      settled : Result (Option (ℕ × ℕ)) Refusal
      settled = Ok None

      by : (t : Bool) → cond t settled (Err Refusal.BadState) ≡ cond t (cond t settled (Err Refusal.BadState)) (Err Refusal.BadState)
      by true = refl
      by false = refl
  fetched_refused Next.Missing = refl
  fetched_refused Next.NoPages = refl
  fetched_refused Next.Entry = refl
  fetched_refused (Next.Chunk l) = refl

  pub fetched_number : (n : Next) → next_passes c arena h.tile k n ≡ true → number_of_result (fetched c n arena h k) ≡ 0
  fetched_number (Next.Ready i) e = rw e
  fetched_number Next.Missing e = refl
  fetched_number Next.NoPages e = refl
  fetched_number Next.Entry e = refl
  fetched_number (Next.Chunk l) e = refl

  module _ (failure : ℕ) (bs : List ℕ) where
    pub stepped-refused : (n : Next) → stepped c n arena h k failure bs
        ≡ cond (next_passes c arena h.tile k n) (stepped c n arena h k failure bs) (over (refused c Refusal.BadState) arena)
    stepped-refused (Next.Ready i) = by (passes arena i (len_at c i) k h.tile) _
      where
        by : (t : Bool) (d : Loaded) → over (cond t d (refused c Refusal.BadState)) arena ≡ cond t (over (cond t d (refused c Refusal.BadState)) arena) (over (refused c Refusal.BadState) arena)
        by true d = refl
        by false d = refl
    stepped-refused Next.Missing = refl
    stepped-refused Next.NoPages = refl
    stepped-refused Next.Entry = refl
    stepped-refused (Next.Chunk l) = refl

  pub from_refused : (pack : List ℕ) (n : Next) → stepped_from c n arena h k pack
      ≡ cond (next_passes c arena h.tile k n) (stepped_from c n arena h k pack) (over (refused c Refusal.BadState) arena)
  from_refused pack (Next.Ready i) = stepped-refused 0 [] (Next.Ready i)
  from_refused pack Next.Missing = refl
  from_refused pack Next.NoPages = refl
  from_refused pack Next.Entry = refl
  from_refused pack (Next.Chunk l) = refl

  -- `fetch` and `load` in one, with their tests
  pub from_tested : (pack : List ℕ) → load_from c arena h k pack
      ≡ cond (cache_ok c h (length arena)) (cond (in_grid h k) (stepped_from c (next_step c k) arena h k pack) (over (refused c Refusal.OutsideGrid) arena))
      (over (refused c Refusal.BadState) arena)
  unfolding load_from fetch
  from_tested pack = by (cache_ok c h (length arena)) (in_grid h k) refl refl
    where
      by : (a b : Bool) → cache_ok c h (length arena) ≡ a → in_grid h k ≡ b → load_from c arena h k pack
          ≡ cond a (cond b (stepped_from c (next_step c k) arena h k pack) (over (refused c Refusal.OutsideGrid) arena)) (over (refused c Refusal.BadState) arena)
      by true true ok grid = from_steps c arena h k pack ok grid
      by true false ok grid = rw (ok, grid)
      by false b ok grid = rw ok

-- ---- what a step of a load answers

either_after : (t : Bool) (x y : After) → number_of_result x.answer ≡ 0 → number_of_result y.answer ≡ 0 → number_of_result (cond t x y).answer ≡ 0
either_after true x y p q = p
either_after false x y p q = q

either_loaded : (t : Bool) (x y : Loaded) → number_of_result x.answer ≡ 0 → number_of_result y.answer ≡ 0 → number_of_result (cond t x y).answer ≡ 0
either_loaded true x y p q = p
either_loaded false x y p q = q

module _ (k : TileKey) where
  began_runs : (x : Option ℕ) (d : Cache) (g : Pages) (offset len : ℕ) → number_of_result (began_at x d g k offset len).answer ≡ 0
  began_runs None d g offset len = refl
  began_runs (Some slot) d g offset len = refl

  located_runs : (x : Result (Option (ℕ × ℕ)) Refusal) (d : Cache) → number_of_result (located x d k).answer ≡ 0
  unfolding began
  located_runs (Ok None) d = refl
  located_runs (Err number) d = refl
  located_runs (Ok (Some (offset, len))) d =
      let b = begun d.pages k len in either_loaded (ltb 49152 len) _ _ refl (began_runs b.at d b.pages offset len)

module _ (c : Cache) (arena : List ℕ) (h : Header) (k : TileKey) where
  entry_runs : (failure : ℕ) (bs : List ℕ) → number_of_result (entry_step c h k failure bs).answer ≡ 0
  unfolding entry_step
  entry_runs failure bs = either_loaded (eqb failure 0) _ _ (located_runs k (locate_of h bs) (dropped c)) refl

  chunk_runs : (l : Loading) (size failure : ℕ) (bs : List ℕ) → number_of_result (chunk_step c l arena size failure bs).answer ≡ 0
  unfolding chunk_step
  chunk_runs l size failure bs = either_after (eqb failure 0) _ _ (either_after (ltb (l.done + chunk_len l) l.len) _ _ refl refl) refl

  pub stepped_runs : (failure : ℕ) (bs : List ℕ) (n : Next) → next_passes c arena h.tile k n ≡ true
      → number_of_result (stepped c n arena h k failure bs).answer ≡ 0
  stepped_runs failure bs (Next.Ready i) e = rw e
  stepped_runs failure bs Next.Missing e = refl
  stepped_runs failure bs Next.NoPages e = refl
  stepped_runs failure bs Next.Entry e = entry_runs failure bs
  stepped_runs failure bs (Next.Chunk l) e = chunk_runs l h.tile failure bs

  pub from_runs : (pack : List ℕ) (n : Next) → next_passes c arena h.tile k n ≡ true → number_of_result (stepped_from c n arena h k pack).answer ≡ 0
  from_runs pack (Next.Ready i) e = rw e
  from_runs pack Next.Missing e = refl
  from_runs pack Next.NoPages e = refl
  from_runs pack Next.Entry e = either_loaded (leb (entry_of h k + 8) (length pack)) _ _ (entry_runs 0 (pack_bytes pack (entry_of h k) 8)) (entry_runs 2 [])
  from_runs pack (Next.Chunk l) e =
      either_after (leb (l.offset + l.done + chunk_len l) (length pack)) _ _
      (chunk_runs l h.tile 0 (pack_bytes pack (l.offset + l.done) (chunk_len l))) (chunk_runs l h.tile 2 [])

-- ---- a step of a load that fails

abbrev Dropped : Cache → List ℕ → After → Type 0
Dropped c arena r = (r.cache ≡ dropped c) × (r.arena ≡ arena)

-- the number of a step's answer, and what is left where it is a failure
record FailsBy (c : Cache) (arena : List ℕ) (first : ℕ) (r : After) : Type 0 where
  is : number_of_progress r.answer ≡ first
  as_it_was : 0 < first → Dropped c arena r

abbrev Fails : Cache → List ℕ → ℕ → Bool → Bool → After → Type 0
Fails c arena failure came inside r = FailsBy c arena (cond came (cond inside 0 4) (number_of (missed failure))) r

told : (c : Cache) (arena : List ℕ) (cs : List Cause) {first : ℕ} {r : After} → FailsBy c arena first r → first_of cs ≡ first
    → Refuses cs (number_of_progress r.answer) (Dropped c arena r) NothingMore
told c arena cs f q = record { is = f.is ∙ sym q; as_it_was = λ some. f.as_it_was (omega (arith, q, some)); goes_on = λ none. tt }

module _ (c : Cache) (arena : List ℕ) (failure : ℕ) where
  -- a step that answers no failure
  goes : (r : After) → number_of_progress r.answer ≡ 0 → Fails c arena failure true true r
  goes r z = record { is = z; as_it_was = λ some. absurd (omega (arith, some)) }

  unread : (inside : Bool) → Fails c arena failure false inside (over (failed (dropped c) (missed failure)) arena)
  unread inside = record { is = refl; as_it_was = λ some. (refl, refl) }

  outside_fails : Fails c arena failure true false (over (failed (dropped c) Corrupt) arena)
  outside_fails = record { is = refl; as_it_was = λ some. (refl, refl) }

  began_fails : (x : Option ℕ) (d : Cache) (g : Pages) (k : TileKey) (offset len : ℕ) → number_of_progress (began_at x d g k offset len).answer ≡ 0
  began_fails None d g k offset len = refl
  began_fails (Some slot) d g k offset len = refl

  began_number : (k : TileKey) (offset len : ℕ) → number_of_progress (began (dropped c) k offset len).answer ≡ 0
  unfolding began
  began_number k offset len =
      let b = begun (dropped c).pages k len in either (ltb 49152 len) _ _ refl (began_fails b.at (dropped c) b.pages k offset len)
    where
      either : (t : Bool) (x y : Loaded) → number_of_progress x.answer ≡ 0 → number_of_progress y.answer ≡ 0 → number_of_progress (cond t x y).answer ≡ 0
      either true x y p q = p
      either false x y p q = q

  -- the entry that came
  entry_fails : (h : Header) (k : TileKey) (bs : List ℕ) → Fails c arena failure true (entry_inside h bs) (over (located (locate_of h bs) (dropped c) k) arena)
  unfolding locate_of
  entry_fails h k bs =
      by (eqb (u32_at bs At.length_at) 0) (leb h.«data» (u32_at bs At.offset_at) && leb (u32_at bs At.offset_at + u32_at bs At.length_at) h.total)
    where
      by : (a b : Bool) → Fails c arena failure true (a || b) (over (located (located_by a b (u32_at bs At.offset_at) (u32_at bs At.length_at)) (dropped c) k) arena)
      by true b = goes (over (done (forgot (dropped c) k)) arena) refl
      by false true = goes (over (began (dropped c) k (u32_at bs At.offset_at) (u32_at bs At.length_at)) arena) (began_number k (u32_at bs At.offset_at) (u32_at bs At.length_at))
      by false false = outside_fails

  chunk_number : (t : Bool) (x y : After) → number_of_progress x.answer ≡ 0 → number_of_progress y.answer ≡ 0 → number_of_progress (cond t x y).answer ≡ 0
  chunk_number true x y p q = p
  chunk_number false x y p q = q

-- the step that a read answered; where none is made, failure is 0
module _ (c : Cache) (arena : List ℕ) (h : Header) (k : TileKey) (failure : ℕ) (bs : List ℕ) where
  no_read : (t s : Bool) → cond t (eqb (length bs) 0) (cond s false false) ≡ true → t ≡ true
  no_read true s e = refl
  no_read false true e = absurd (true≢false (sym e))
  no_read false false e = absurd (true≢false (sym e))

  fails_by : (n : Next) → fits (read_len n) failure (length bs) ≡ true → next_passes c arena h.tile k n ≡ true
      → Fails c arena failure (eqb failure 0) (entry_read n h bs) (stepped c n arena h k failure bs)
  unfolding entry_step chunk_step
  fails_by (Next.Ready i) f e =
      rw (no_read (eqb failure 0) (ltb 2 failure) f) (goes c arena failure (stepped c (Next.Ready i) arena h k failure bs) (rw e))
  fails_by Next.Missing f e = rw (no_read (eqb failure 0) (ltb 2 failure) f) (goes c arena failure (stepped c Next.Missing arena h k failure bs) refl)
  fails_by Next.NoPages f e = rw (no_read (eqb failure 0) (ltb 2 failure) f) (goes c arena failure (stepped c Next.NoPages arena h k failure bs) refl)
  fails_by Next.Entry f e = by (eqb failure 0)
    where
      by : (t : Bool) → Fails c arena failure t (entry_inside h bs)
          (over (cond t (located (locate_of h bs) (dropped c) k) (failed (dropped c) (missed failure))) arena)
      by true = entry_fails c arena failure h k bs
      by false = unread c arena failure (entry_inside h bs)
  fails_by (Next.Chunk l) f e = by (eqb failure 0) _ (chunk_number c arena failure (ltb (l.done + chunk_len l) l.len) _ _ refl refl)
    where
      by : (t : Bool) (x : After) → number_of_progress x.answer ≡ 0 → Fails c arena failure t true (cond t x (over (failed (dropped c) (missed failure)) arena))
      by true x z = goes c arena failure x z
      by false x z = unread c arena failure true

-- the causes in their order, by the number that was given: 1, 2 or none
module _ (failure : ℕ) (inside : Bool) where
  abbrev Firsts : Type 0
  Firsts = first_of (Media unless not (eqb failure 1) ∷ PastPack unless not (eqb failure 2) ∷ Corrupt unless inside ∷ []) ≡ cond (eqb failure 0) (cond inside 0 4) (number_of (missed failure))

  first_is : (n : ℕ) → failure ≡ n → n < 3 → Firsts
  unfolding first_of
  first_is zero e few = rw e
  first_is (suc zero) e few = rw e
  first_is (suc (suc zero)) e few = rw e
  first_is (suc (suc (suc n))) e few = absurd (omega (arith, few))

  failure_first : (len n : ℕ) → fits n failure len ≡ true → Firsts
  failure_first len n f = first_is failure refl (by (eqb failure 0) (ltb 2 failure) refl refl)
    where
      by : (s t : Bool) → eqb failure 0 ≡ s → ltb 2 failure ≡ t → failure < 3
      by true t e q = omega (arith, eqb-true failure 0 e)
      by false false e q = omega (arith, ltb-false 2 failure q)
      by false true e q = let none : false ≡ true = rw (e, q) at f in absurd (true≢false (sym none))

pub step_fails : (c : Cache) (arena : List ℕ) (h : Header) (k : TileKey) (failure : ℕ) (bs : List ℕ)
    → takes (next_step c k) h k failure (length bs) ≡ true → in_grid h k ≡ true → still_passes (look c arena h.tile k) ≡ true
    → let r = stepped c (next_step c k) arena h k failure bs in
    Refuses (Media unless not (eqb failure 1) ∷ PastPack unless not (eqb failure 2) ∷ Corrupt unless entry_read (next_step c k) h bs ∷ [])
    (number_of_progress r.answer) (Dropped c arena r) NothingMore
step_fails c arena h k failure bs f grid e =
    let here : fits (read_len (next_step c k)) failure (length bs) ≡ true = rw grid at f in
    told c arena _ (fails_by c arena h k failure bs (next_step c k) here (sym (still_next c arena h.tile k) ∙ e))
    (failure_first failure (entry_read (next_step c k) h bs) (length bs) (read_len (next_step c k)) here)

past_first : (came inside : Bool) → first_of (PastPack unless came ∷ Corrupt unless inside ∷ []) ≡ cond came (cond inside 0 4) (number_of (missed 2))
unfolding first_of
past_first came inside = refl

pub from_fails : (c : Cache) (arena : List ℕ) (h : Header) (k : TileKey) (pack : List ℕ) → still_passes (look c arena h.tile k) ≡ true
    → let r = stepped_from c (next_step c k) arena h k pack in
    Refuses (PastPack unless in_pack (fetched c (next_step c k) arena h k) pack ∷ Corrupt unless entry_read (next_step c k) h (pack_bytes pack (entry_of h k) 8) ∷ [])
    (number_of_progress r.answer) (Dropped c arena r) NothingMore
unfolding entry_step chunk_step
from_fails c arena h k pack e = told c arena _ (by (next_step c k) (sym (still_next c arena h.tile k) ∙ e)) (past_first _ _)
  where
    entry : (t : Bool) → Fails c arena 2 t (entry_inside h (pack_bytes pack (entry_of h k) 8))
        (over (cond t (entry_step c h k 0 (pack_bytes pack (entry_of h k) 8)) (entry_step c h k 2 [])) arena)
    entry true = entry_fails c arena 2 h k (pack_bytes pack (entry_of h k) 8)
    entry false = unread c arena 2 (entry_inside h (pack_bytes pack (entry_of h k) 8))

    chunk : (t : Bool) (x : After) → number_of_progress x.answer ≡ 0 → Fails c arena 2 t true (cond t x (over (failed (dropped c) (missed 2)) arena))
    chunk true x z = goes c arena 2 x z
    chunk false x z = unread c arena 2 true

    by : (n : Next) → next_passes c arena h.tile k n ≡ true
        → Fails c arena 2 (in_pack (fetched c n arena h k) pack) (entry_read n h (pack_bytes pack (entry_of h k) 8)) (stepped_from c n arena h k pack)
    by (Next.Ready i) e = rw e (goes c arena 2 (over (done (touched c i)) arena) refl)
    by Next.Missing e = goes c arena 2 (over (done c) arena) refl
    by Next.NoPages e = goes c arena 2 (over (done (forgot c k)) arena) refl
    by Next.Entry e = entry (leb (entry_of h k + 8) (length pack))
    by (Next.Chunk l) e =
        chunk (leb (l.offset + l.done + chunk_len l) (length pack)) _ (chunk_number c arena 2 (ltb (l.done + chunk_len l) l.len) _ _ refl refl)
