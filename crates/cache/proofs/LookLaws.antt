-- Lookups: they change clock and ages alone (`got_aged`, `looked_aged`), and no lookup and no next step reads those (`touched-look`,
-- `touched_next`), so that all lookups of one call agree, in whatever order they come (`looked-look`). What `get` answers is the look in
-- pages (`got-ready`, `got-missing`), and the late check of what the lookup landed on (`checked-landed`). The idea: `touched` has the record
-- outside, so that what a lookup reads is the old by computation.
use Rattle.std.specs.Prelude.{Ok, Err}
use Rattle.std.proofs.Common.{◌≡◌, ℕ, ◌+◌, ◌*◌, ◌≤◌, Bool, true, false, cond, leb, List, [], ◌∷◌, ◌++◌, length, refl, ◌∙◌, arith, leb-true}
use Rattle.pack.specs.declared.TileKey.{TileKey}
use Rattle.pack.proofs.Laws.{and_left, and_right}
use Rattle.tile.specs.Parse.{accepts}
use Rattle.cache.specs.declared.Cache.{Cache}
use Rattle.cache.specs.declared.Lookup.{Lookup}
use Rattle.cache.specs.declared.look.Landing.{Landing}
use Rattle.cache.specs.Lookups.{lands_on, run_bytes, passes, len_at, touched, got_ready, got_at, got, landed_by, landed, checked, by_number, next_at, next_step}
use Rattle.cache.specs.Keys.{ready_at}
use Rattle.cache.specs.Direct.{Look, ready, missing, stale, look_at, look, looked, Aged}
use Rattle.cache.specs.Uses.{uses_of, used_at, with_uses}

-- ---- the most recently used changes no lookup

pub touched-look : (c : Cache) (i : ℕ) (arena : List ℕ) (size : ℕ) → ◌≡◌ {A = TileKey → Look} (look (touched c i) arena size) (look c arena size)
unfolding look lands_on ready_at touched
touched-look c i arena size = refl

next_by : (l : Landing) (c : Cache) (i : ℕ) (key : TileKey) → next_at l (touched c i) key ≡ next_at l c key
unfolding touched
next_by Landing.Missing c i key = refl
next_by Landing.Nothing c i key = refl
next_by (Landing.At j) c i key = refl

pub touched_next : (c : Cache) (i : ℕ) (key : TileKey) → next_step (touched c i) key ≡ next_step c key
unfolding next_step lands_on ready_at touched
touched_next c i key = next_by (lands_on c key) c i key

-- ---- one lookup

aged_same : (c : Cache) → Aged c c
aged_same c = record { slots = refl; count = refl; missing = refl; loading = refl; pending = refl; loads = refl }

touched_aged : (c : Cache) (i : ℕ) → Aged c (touched c i)
unfolding touched
touched_aged c i = record { slots = refl; count = refl; missing = refl; loading = refl; pending = refl; loads = refl }

module _ (arena : List ℕ) (size : ℕ) where
  ready_aged : (ok : Bool) (c : Cache) (i : ℕ) → Aged c (got_ready ok c i).cache
  ready_aged true c i = touched_aged c i
  ready_aged false c i = aged_same c

  at_aged : (l : Landing) (c : Cache) (key : TileKey) → Aged c (got_at l c arena size key).cache
  at_aged Landing.Missing c key = aged_same c
  at_aged Landing.Nothing c key = aged_same c
  at_aged (Landing.At i) c key = ready_aged (passes arena i (len_at c i) key size) c i

  pub got_aged : (c : Cache) (key : TileKey) → Aged c (got c arena size key).cache
  unfolding got
  got_aged c key = at_aged (lands_on c key) c key

  ready_look : (ok : Bool) (c : Cache) (i : ℕ) → ◌≡◌ {A = TileKey → Look} (look (got_ready ok c i).cache arena size) (look c arena size)
  ready_look true c i = touched-look c i arena size
  ready_look false c i = refl

  at_look : (l : Landing) (c : Cache) (key : TileKey) → ◌≡◌ {A = TileKey → Look} (look (got_at l c arena size key).cache arena size) (look c arena size)
  at_look Landing.Missing c key = refl
  at_look Landing.Nothing c key = refl
  at_look (Landing.At i) c key = ready_look (passes arena i (len_at c i) key size) c i

  pub got-look : (c : Cache) (key : TileKey) → ◌≡◌ {A = TileKey → Look} (look (got c arena size key).cache arena size) (look c arena size)
  unfolding got
  got-look c key = at_look (lands_on c key) c key

  -- ---- many

  aged_then : {a b d : Cache} → Aged a b → Aged b d → Aged a d
  aged_then p q = record {
    slots = q.slots ∙ p.slots;
    count = q.count ∙ p.count;
    missing = q.missing ∙ p.missing;
    loading = q.loading ∙ p.loading;
    pending = q.pending ∙ p.pending;
    loads = q.loads ∙ p.loads;
  }

  pub looked_aged : (keys : List TileKey) (c : Cache) → Aged c (looked c arena size keys)
  unfolding looked
  looked_aged [] c = aged_same c
  looked_aged (key ∷ keys) c = aged_then (got_aged c key) (looked_aged keys (got c arena size key).cache)

  -- whatever was looked up before, a lookup gives the same
  pub looked-look : (keys : List TileKey) (c : Cache) → ◌≡◌ {A = TileKey → Look} (look (looked c arena size keys) arena size) (look c arena size)
  unfolding looked
  looked-look [] c = refl
  looked-look (key ∷ keys) c = looked-look keys (got c arena size key).cache ∙ got-look c key

  -- one key more
  pub looked_more : (keys : List TileKey) (c : Cache) (key : TileKey)
      → looked c arena size (keys ++ (key ∷ [])) ≡ (got (looked c arena size keys) arena size key).cache
  unfolding looked
  looked_more [] c key = refl
  looked_more (first ∷ keys) c key = looked_more keys (got c arena size first).cache key

  -- a lookup that landed on a run that passes
  pub got-touched : (c : Cache) (key : TileKey) (i : ℕ) → lands_on c key ≡ Landing.At i → passes arena i (len_at c i) key size ≡ true
      → (got c arena size key).cache ≡ touched c i
  unfolding got
  got-touched c key i e p = rw (e, p)

  -- ---- in two steps: what a lookup lands on, then its late check

  ready_checked : (ok : Bool) (c : Cache) (i : ℕ) → cond ok (Ok (Lookup.Ready i (len_at c i))) (Err 12) ≡ by_number (got_ready ok c i).answer
  ready_checked true c i = refl
  ready_checked false c i = refl

  at_checked : (l : Landing) (c : Cache) (key : TileKey) → checked (Ok (landed_by l c)) arena size key ≡ by_number (got_at l c arena size key).answer
  at_checked Landing.Missing c key = refl
  at_checked Landing.Nothing c key = refl
  at_checked (Landing.At i) c key = ready_checked (passes arena i (len_at c i) key size) c i

  pub checked-landed : (c : Cache) (key : TileKey) → checked (Ok (landed c key)) arena size key ≡ by_number (got c arena size key).answer
  unfolding landed got
  checked-landed c key = at_checked (lands_on c key) c key

  -- ---- what `get` answers, in bytes

  ready_by : (ok : Bool) (c : Cache) (i first len : ℕ) → (got_ready ok c i).answer ≡ Ok (Lookup.Ready first len)
      → cond ok (ready (run_bytes arena i (len_at c i))) stale ≡ ready (run_bytes arena first len)
  ready_by true c i first len e =
      let a : i ≡ first = cc in
      let b : len_at c i ≡ len = cc in
      rw (b, a)
  ready_by false c i first len e = let z : ◌≡◌ {A = ℕ} 0 1 = cc in absurd (omega arith)

  at_ready : (l : Landing) (c : Cache) (key : TileKey) (first len : ℕ) → (got_at l c arena size key).answer ≡ Ok (Lookup.Ready first len)
      → look_at l c.pages.slots arena size key ≡ ready (run_bytes arena first len)
  at_ready Landing.Missing c key first len e = let z : ◌≡◌ {A = ℕ} 0 1 = cc in absurd (omega arith)
  at_ready Landing.Nothing c key first len e = let z : ◌≡◌ {A = ℕ} 0 1 = cc in absurd (omega arith)
  at_ready (Landing.At i) c key first len e = ready_by (passes arena i (len_at c i) key size) c i first len e

  pub got-ready : (c : Cache) (key : TileKey) (first len : ℕ) → (got c arena size key).answer ≡ Ok (Lookup.Ready first len) → look c arena size key ≡ ready (run_bytes arena first len)
  unfolding got look
  got-ready c key first len e = at_ready (lands_on c key) c key first len e

  at_missing : (l : Landing) (c : Cache) (key : TileKey) → (got_at l c arena size key).answer ≡ Ok Lookup.Missing → look_at l c.pages.slots arena size key ≡ missing
  at_missing Landing.Missing c key e = refl
  at_missing Landing.Nothing c key e = let z : ◌≡◌ {A = ℕ} 0 1 = cc in absurd (omega arith)
  at_missing (Landing.At i) c key e = never (passes arena i (len_at c i) key size) e
    where
      never : (ok : Bool) → (got_ready ok c i).answer ≡ Ok Lookup.Missing → cond ok (ready (run_bytes arena i (len_at c i))) stale ≡ missing
      never true e = let z : ◌≡◌ {A = ℕ} 0 1 = cc in absurd (omega arith)
      never false e = let z : ◌≡◌ {A = ℕ} 0 1 = cc in absurd (omega arith)

  pub got-missing : (c : Cache) (key : TileKey) → (got c arena size key).answer ≡ Ok Lookup.Missing → look c arena size key ≡ missing
  unfolding got look
  got-missing c key e = at_missing (lands_on c key) c key e

-- ---- a run that passes lies in the arena, and is accepted

module _ (arena : List ℕ) (first len : ℕ) (key : TileKey) (size : ℕ) (e : passes arena first len key size ≡ true) where
  pub passes_inside : first * 8192 + len ≤ length arena
  unfolding passes
  passes_inside = leb-true (first * 8192 + len) (length arena) (and_left (leb (first * 8192 + len) (length arena)) (accepts (run_bytes arena first len) key size) e)

  pub passes_accepted : accepts (run_bytes arena first len) key size ≡ true
  unfolding passes
  passes_accepted = and_right (leb (first * 8192 + len) (length arena)) (accepts (run_bytes arena first len) key size) e

-- ---- clock and ages beside the cache

-- a state that differs at most in clock and ages is the first with the other's
pub aged_uses : (c d : Cache) → Aged c d → with_uses c (uses_of d) ≡ d
aged_uses c d a = rw (← a.slots, ← a.count, ← a.missing, ← a.loading, ← a.pending, ← a.loads)

pub touched_uses : (c : Cache) (i : ℕ) → uses_of (touched c i) ≡ used_at (uses_of c) i
unfolding touched
touched_uses c i = refl

-- what a lookup lands on does not go by clock and ages
pub aged_lands : (c d : Cache) (key : TileKey) → Aged c d → lands_on d key ≡ lands_on c key
unfolding lands_on ready_at
aged_lands c d key a = rw (a.slots, a.count, a.missing)
