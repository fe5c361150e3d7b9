-- What a lookup tells of the state: a key in the ring stands in some place of it, the ready run that a lookup lands on is below the count,
-- ready and of that key, and starts a run in any state that number 12 lets be (`found_run`); and what the next step towards a tile says. By the
-- laws of a search.
use Rattle.std.specs.Prelude.{Option, Some, None}
use Rattle.std.specs.Prelude.{is_some}
use Prim.Native.Nat.{ℕ, ◌<◌}
use mathlib.Core.Path.{◌≡◌, refl, sym, ap, ◌∙◌}
use mathlib.Core.Bool.{Bool, true, false, not, ◌&&◌, cond, true≢false}
use native.Mathlib.Omega.{arith}
use borrow.Author.Tests.{eqb-true, eqb-false, eq-eqb}
use lib.Dec.{eqb}
use Rattle.pack.specs.declared.TileKey.{TileKey}
use Rattle.cache.specs.declared.Pages.{Pages}
use Rattle.cache.specs.Runs.{slot_at, Kind, bare, run, piece, kind_at, is_run, no_key, Sound}
use Rattle.cache.proofs.Below.{and_left, and_right}
use Rattle.cache.proofs.RunLaws.{key_is_run}
use Rattle.cache.specs.declared.Cache.{Cache}
use Rattle.cache.specs.declared.Ring.{Ring}
use Rattle.cache.specs.declared.Loading.{Loading}
use Rattle.cache.specs.declared.look.Landing.{Landing}
use Rattle.cache.specs.declared.next.Next.{Next}
use Rattle.cache.specs.Search.{lowest}
use Rattle.cache.specs.Keys.{same_key, holds, key_at, in_ring, is_ready, ready_at}
use Rattle.cache.specs.Lookups.{landed_on, lands_on, next_read, next_at, next_step}
use Rattle.cache.proofs.SearchLaws.{lowest_at, lowest_none, lowest_some}

-- ---- keys

pub same_key_lem : (a b : TileKey) → same_key a b ≡ true → a ≡ b
same_key_lem a b e =
    let row : a.row ≡ b.row = eqb-true a.row b.row (and_left (eqb a.row b.row) _ e) in
    let col : a.col ≡ b.col = eqb-true a.col b.col (and_right (eqb a.row b.row) _ e) in
    λ i. record { row = row i; col = col i }

pub key_same : (k : TileKey) → same_key k k ≡ true
key_same k = rw (eq-eqb k.row k.row refl, eq-eqb k.col k.col refl)

pub holds_key : (m : Option TileKey) (key : TileKey) → holds m key ≡ true → m ≡ Some key
holds_key (Some k) key e = ap Some (same_key_lem k key e)
holds_key None key e = let z : ◌≡◌ {A = ℕ} 0 1 = cc in absurd (omega arith)

-- ---- the two searches

-- something is found where a number below the bound has it
pub lowest_found : (p : ℕ → Bool) (n i : ℕ) → i < n → p i ≡ true → is_some (lowest p n) ≡ true
lowest_found p n i h t = by (lowest p n) refl
  where
    by : (x : Option ℕ) → lowest p n ≡ x → is_some x ≡ true
    by (Some j) e = refl
    by None e = absurd (true≢false (sym t ∙ lowest_none p n e i h))

pub in_ring_lem : (r : Ring) (key : TileKey) {R : Type 0} → in_ring r key ≡ true → ((i : ℕ) → key_at r i ≡ Some key → R) → R
unfolding in_ring
in_ring_lem r key e f =
    lowest_some (λ (i : ℕ). holds (key_at r i) key) 64 e (λ (i : ℕ) (h : holds (key_at r i) key ≡ true). f i (holds_key (key_at r i) key h))

-- the run at i is ready, and the key's
pub record ReadyAt (g : Pages) (key : TileKey) (i : ℕ) : Type 0 where
  pub below : i < g.count
  pub ready : (slot_at g.slots i).ready ≡ true
  pub key_is : (slot_at g.slots i).key ≡ Some key

pub ready_at_lem : (g : Pages) (key : TileKey) (i : ℕ) → ready_at g key ≡ Some i → ReadyAt g key i
unfolding ready_at is_ready
ready_at_lem g key i e =
    let r : (i < g.count) × (((slot_at g.slots i).ready && holds (slot_at g.slots i).key key) ≡ true)
    = lowest_at (λ (j : ℕ). is_ready key (slot_at g.slots j)) g.count i e in
    record {
      below = r.0;
      ready = and_left (slot_at g.slots i).ready _ r.1;
      key_is = holds_key (slot_at g.slots i).key key (and_right (slot_at g.slots i).ready _ r.1);
    }

is_run_lem : (k : Kind) → false ≡ not (is_run k) → k ≡ run
is_run_lem run e = refl
is_run_lem bare e = absurd (true≢false (sym e))
is_run_lem (piece h) e = absurd (true≢false (sym e))

-- it starts a run, whatever is marked ready: a page that starts none has no key
pub found_run : (g : Pages) → Sound g → (key : TileKey) (i : ℕ) → ready_at g key ≡ Some i → kind_at g.slots i ≡ run
found_run g f key i e =
    is_run_lem (kind_at g.slots i) (ap no_key (sym (ready_at_lem g key i e).key_is) ∙ key_is_run g.slots g.count f.good i)

-- ---- what a lookup lands on, and what the next step towards a tile says of the state

abbrev pub LandingIs : Cache → TileKey → Landing → Type 0
LandingIs c key Landing.Missing = in_ring c.missing key ≡ true
LandingIs c key (Landing.At i) = ready_at c.pages key ≡ Some i
LandingIs c key Landing.Nothing = Unit

pub landing : (c : Cache) (key : TileKey) → LandingIs c key (lands_on c key)
unfolding lands_on
landing c key = by (in_ring c.missing key) (ready_at c.pages key) refl refl
  where
    by : (t : Bool) (x : Option ℕ) → in_ring c.missing key ≡ t → ready_at c.pages key ≡ x → LandingIs c key (cond t Landing.Missing (landed_on x))
    by true x p q = p
    by false (Some i) p q = q
    by false None p q = tt

abbrev pub NextIs : Cache → TileKey → Next → Type 0
NextIs c key (Next.Ready i) = ready_at c.pages key ≡ Some i
NextIs c key Next.Missing = in_ring c.missing key ≡ true
NextIs c key Next.NoPages = c.pages.count ≡ 0
NextIs c key Next.Entry = c.pages.count ≡ 0 → ⊥
NextIs c key (Next.Chunk l) = (c.loading ≡ Some l) × (l.key ≡ key)

-- a chunk is read towards a key that no ready run has
pub chunk_unready : (c : Cache) (key : TileKey) (l : Loading) → next_step c key ≡ Next.Chunk l → is_some (ready_at c.pages key) ≡ true → ⊥
unfolding next_step lands_on
chunk_unready c key l q found = by (in_ring c.missing key) (ready_at c.pages key) found q
  where
    by : (t : Bool) (x : Option ℕ) → is_some x ≡ true → next_at (cond t Landing.Missing (landed_on x)) c key ≡ Next.Chunk l → ⊥
    by true x e q = let z : ◌≡◌ {A = ℕ} 0 1 = cc in omega arith
    by false (Some i) e q = let z : ◌≡◌ {A = ℕ} 0 1 = cc in omega arith
    by false None e q = true≢false (sym e)

pub next_is : (c : Cache) (key : TileKey) → NextIs c key (next_step c key)
unfolding next_step
next_is c key = at (lands_on c key) (landing c key)
  where
    tile : (l : Loading) (u : Bool) → same_key l.key key ≡ u → (c.pages.count ≡ 0 → ⊥) → c.loading ≡ Some l
        → NextIs c key (cond u (Next.Chunk l) Next.Entry)
    tile l true e p q = (q, same_key_lem l.key key e)
    tile l false e p q = p

    by : (t : Bool) (x : Option Loading) → eqb c.pages.count 0 ≡ t → c.loading ≡ x → NextIs c key (cond t Next.NoPages (next_read x key))
    by true x p q = eqb-true c.pages.count 0 p
    by false None p q = eqb-false c.pages.count 0 p
    by false (Some l) p q = tile l (same_key l.key key) refl (eqb-false c.pages.count 0 p) q

    at : (x : Landing) → LandingIs c key x → NextIs c key (next_at x c key)
    at Landing.Missing e = e
    at (Landing.At i) e = e
    at Landing.Nothing e = by (eqb c.pages.count 0) c.loading refl refl
