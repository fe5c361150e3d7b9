-- No call of a list leaves an engine in a state that 12 names: for the engine's own calls by crate engine_states, here for the direct calls on its cache,
-- which change nothing else and withdraw an open fetch that they do the work of.
use Rattle.std.specs.Prelude.{Option}
use Prim.Native.Nat.{ℕ, ◌*◌, ◌≤◌}
use mathlib.Core.Path.{◌≡◌, refl, sym, ap, ◌∙◌}
use mathlib.Core.Bool.{true}
use mathlib.Core.List.{List}
use native.Mathlib.Omega.{arith}
use borrow.Author.Tests.{le-leb}
use lib.Ieee.{Float}
use lib.ListN.{length}
use Rattle.pack.specs.declared.Header.{Header}
use Rattle.pack.specs.declared.TileKey.{TileKey}
use Rattle.cache.specs.Lookups.{touched}
use Rattle.cache.specs.State as Caches
use Rattle.cache.specs.State.{cleared}
use Rattle.cache.specs.declared.Cache.{Cache}
use Rattle.cache.specs.declared.Got.{Got}
use Rattle.cache.specs.declared.Pending.{Pending}
use Rattle.cache.specs.Search.{lowest}
use Rattle.cache.specs.Loads as Loads
use Rattle.cache.specs.Loads.{withdrawn, forgot, dropped, moved, further, readied}
use Rattle.cache_lists.specs.Lists as Cached
use Rattle.cache_lists.proofs.Steps.{Gets, denied, ringed, unknown, handed, get_is, Step, refuses, knows, uses, no_pages, fails, lacks, begins, goes_on, readies, spoils, load_is, from_is}
use Rattle.cache_lists.proofs.Inv.{Inv, inv_ok, inv_fresh}
use Rattle.cache_lists.proofs.Safe.{inv_call, clear_leaves}
use Rattle.engine.specs.Publish.{nothing_ahead}
use Rattle.engine.specs.Follow as Followers
use Rattle.engine.specs.State.{pending_by, pending_ok, reload_limit, places_ok, shared_ok, engine_ok}
use Rattle.engine.specs.declared.Engine.{Engine}
use Rattle.engine.specs.declared.Shared.{Shared}
use Rattle.engine_states.proofs.KeptParts.{EngineOk, apart, together, cache_ok}
use Rattle.direct.specs.Lists.{World, with_cache, cache_of, start}

-- ---- what a direct call leaves of the open fetch and the load

-- an entry's or a chunk's withdrawn, the header's kept or withdrawn
abbrev pub Withdraws : Pending → Pending → Type 0
Withdraws p Pending.Nothing = Unit
Withdraws p Pending.Header = p ≡ Pending.Header
Withdraws p (Pending.Entry key) = ⊥
Withdraws p Pending.Chunk = ⊥

withdrawn_is : (p : Pending) → Withdraws p (withdrawn p)
withdrawn_is Pending.Nothing = tt
withdrawn_is Pending.Header = refl
withdrawn_is (Pending.Entry key) = tt
withdrawn_is Pending.Chunk = tt

withdrawn_twice : (p : Pending) → Withdraws p (withdrawn (withdrawn p))
withdrawn_twice Pending.Nothing = tt
withdrawn_twice Pending.Header = refl
withdrawn_twice (Pending.Entry key) = tt
withdrawn_twice Pending.Chunk = tt

pub data Leaves (c d : Cache) : Type 0 where
  stands : d.pending ≡ c.pending → d.loading ≡ c.loading → Leaves c d
  ends : Withdraws c.pending d.pending → Leaves c d

got_leaves : {c : Cache} {arena : List ℕ} {h : Header} {key : TileKey} {r : Got} → Gets c arena h key r → Leaves c r.cache
unfolding touched
got_leaves (denied k s) = stands refl refl
got_leaves (ringed e) = stands refl refl
got_leaves unknown = stands refl refl
got_leaves (handed i e p) = stands refl refl

step_leaves : {c : Cache} {arena : List ℕ} {h : Header} {key : TileKey} {failure : ℕ} {bs : List ℕ} {r : Loads.After} → Step c arena h key failure bs r
    → Leaves c r.cache
unfolding touched forgot dropped moved further readied
step_leaves (refuses k s) = stands refl refl
step_leaves (knows e) = stands refl refl
step_leaves (uses i e) = stands refl refl
step_leaves {c} (no_pages e) = ends (withdrawn_is c.pending)
step_leaves {c} (fails k) = ends (withdrawn_is c.pending)
step_leaves {c} (lacks came s) = ends (withdrawn_twice c.pending)
step_leaves {c} (begins came offset len slot e s v) = ends (withdrawn_twice c.pending)
step_leaves {c} (goes_on l came b) = ends (withdrawn_is c.pending)
step_leaves {c} (readies l came b p) = ends (withdrawn_is c.pending)
step_leaves {c} (spoils l came b p) = ends (withdrawn_twice c.pending)

call_leaves : (w : Cached.World) (c : Cached.Call) → Inv w.cache → Leaves w.cache (Cached.exec c w).world.cache
unfolding Cached.exec cleared
call_leaves w Cached.capacity f = stands refl refl
call_leaves w Cached.loads f = stands refl refl
call_leaves w (Cached.pages h key) f = stands refl refl
call_leaves w (Cached.get h key) f = got_leaves (get_is w.cache w.arena h key)
call_leaves w (Cached.fetch h key) f = stands refl refl
call_leaves w (Cached.load h key failure bs) f = step_leaves (load_is w.cache w.arena h key failure bs)
call_leaves w (Cached.load_from h key Q) f = step_leaves (from_is w.cache w.arena h key Q).goes
call_leaves w Cached.clear f = clear_leaves (Leaves w.cache) w.cache w.arena (ends tt) (stands refl refl)

-- ---- the engine over another state of its cache

module _ (s : Shared) (need : Option TileKey) (d : Cache) (ok : pending_ok s need ≡ true) where
  abbrev s₁ : Shared
  s₁ = record { phase = s.phase; header = s.header; cache = d }

  stands_by : (x : Pending) → d.loading ≡ s.cache.loading → pending_by x s need ≡ true → pending_by x s₁ need ≡ true
  stands_by Pending.Nothing q r = refl
  stands_by Pending.Header q r = r
  stands_by (Pending.Entry key) q r = r
  stands_by Pending.Chunk q r = rw q r

  ends_by : (x : Pending) → Withdraws s.cache.pending x → pending_by x s₁ need ≡ true
  ends_by Pending.Nothing w = refl
  ends_by Pending.Header w = sym (ap (λ (y : Pending). pending_by y s need) w) ∙ ok
  ends_by (Pending.Entry key) w = absurd w
  ends_by Pending.Chunk w = absurd w

  pending_leaves : Leaves s.cache d → pending_ok s₁ need ≡ true
  pending_leaves (stands p q) = ap (λ (y : Pending). pending_by y s₁ need) p ∙ stands_by s.cache.pending q ok
  pending_leaves (ends w) = ends_by d.pending w

pub cache_sound : (e : Engine) (d : Cache) (size : ℕ) → engine_ok e size ≡ true → Inv d → d.pages.count ≡ e.shared.cache.pages.count
    → Leaves e.shared.cache d
    → engine_ok (with_cache e d) size ≡ true
cache_sound e d size ok inv count l =
    let parts : EngineOk e.shared e.follower size = apart e size ok in
    together (with_cache e d) size
    (cache_ok e.shared d e.follower size parts (inv_ok d inv) count
    (pending_leaves e.shared e.follower.due.need d parts.pending l))

-- lookups leave both
pub touched_leaves : (c d : Cache) (i : ℕ) → Leaves c d → Leaves c (touched d i)
unfolding touched
touched_leaves c d i (stands p q) = stands p q
touched_leaves c d i (ends w) = ends w

pub call_sound : (w : World) (c : Cached.Call) (size : ℕ) → engine_ok w.engine size ≡ true → Inv w.engine.shared.cache
    → (Cached.exec c (cache_of w)).world.cache.pages.count ≡ w.engine.shared.cache.pages.count
    → engine_ok (with_cache w.engine (Cached.exec c (cache_of w)).world.cache) size ≡ true
call_sound w c size ok inv count =
    cache_sound w.engine (Cached.exec c (cache_of w)).world.cache size ok (inv_call (cache_of w) c inv) count (call_leaves (cache_of w) c inv)

-- ---- the start

pub start_sound : (n : ℕ) (horizon : Float) (arena : List ℕ) → n ≤ 96 → n * 8192 ≤ length arena → engine_ok (start n horizon arena).engine (length arena) ≡ true
unfolding Caches.fresh Followers.fresh nothing_ahead places_ok lowest shared_ok engine_ok
start_sound n horizon arena few long =
    rw (inv_ok (Caches.fresh n) (inv_fresh n few), le-leb (n * 8192) (length arena) long, le-leb 0 (reload_limit n) (omega arith))
