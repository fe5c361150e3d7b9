-- With no premise: the cache's own invariant holds along every list of calls, and each call is safe. By the ways that a call goes.
use Rattle.refusal.specs.Refusal.{number_of_result}
use Rattle.refusal.specs.declared.Refusal.{Refusal}
use Prim.Native.Nat.{ℕ, ◌+◌, ◌≤◌}
use mathlib.Core.Path.{◌≡◌, refl, sym, ap, ◌∙◌}
use mathlib.Core.Bool.{Bool, true, false, ◌&&◌, cond, true≢false}
use mathlib.Core.List.{List, [], ◌∷◌}
use mathlib.Core.Logic.{inl}
use native.Mathlib.Omega.{arith}
use lib.Dec.{eqb, ltb, leb}
use lib.ListN.{length}
use Rattle.std.specs.Prelude.{Result, Ok, Err}
use Rattle.pack.specs.Grid as Grid
use Rattle.pack.specs.Grid.{is_point}
use Rattle.pack.specs.declared.TileKey.{TileKey}
use Rattle.cache.specs.Lookups.{touched}
use Rattle.cache.specs.State.{pending_fits, cleared}
use Rattle.cache.specs.declared.Cache.{Cache}
use Rattle.cache.specs.declared.Pending.{Pending}
use Rattle.cache.specs.declared.Slot.{Slot}
use Rattle.cache.specs.Runs.{slot_at}
use Rattle.cache.specs.Loads.{forgot}
use Rattle.cache.specs.declared.Progress.{Progress}
use Rattle.cache_lists.specs.Claims.{SameAt, OfChunk, MayWrite, Written}
use Rattle.cache_lists.proofs.Steps.{load_is}
use Rattle.cache_lists.proofs.Inv.{Inv, inv_short, inv_ok, inv_apart, inv_cleared, inv_touched, inv_forgot}
use Rattle.cache_lists.proofs.Safe as CacheSafe
use Rattle.cache_lists.proofs.Safe.{inv_step, inv_call, handed_call, one_read_lem, takes_call, written_call, written_step, fresh_step, fresh_cleared, fresh_call}
use Rattle.cache_lists.proofs.Live.{Freshly}
use Rattle.cache_lists.proofs.Chunk.{not_written, chunk_only, bytes_kept}
use Rattle.engine.specs.declared.Fix.{Fix}
use Rattle.engine.specs.State.{refused, engine_ok, forgotten}
use Rattle.engine.specs.Deliver as Delivered
use Rattle.engine.specs.Deliver.{After, with_pending, over, arrived, header_failed, load_failed, loaded_by}
use Rattle.engine.specs.Calls as Engines
use Rattle.engine.specs.declared.Changed.{Changed}
use Rattle.engine.specs.declared.Engine.{Engine}
use Rattle.engine.specs.declared.Status.{Status}
use Rattle.engine.specs.declared.Stepped.{Stepped}
use Rattle.engine_states.proofs.CacheKept.{ok_parts, pending_ok_lem}
use Rattle.direct.specs.Lists.{World, Call, fix, lost, reset, step, deliver, step_from, read, on_cache, nearby, current, update, predict, delivered, cache_of, number, exec, Along}
use Rattle.direct.specs.Finished.{Task, none, off_map, match, road, task_of}
use Rattle.direct.specs.Claims.{open_read, task_hands, HandedOut, reads_of, lent_reads, reads, SameFor, LentOnly, HasLen, TakesOnly, kind_of, KeptBytes, LeavesShort, Safe}
use Rattle.engine_states.proofs.Ways as Ways
use Rattle.engine_states.proofs.Ways.{Delivers, brought, is_fetch, Lends, deliver_is, lends_is}
use Rattle.direct.proofs.Changes.{step_keeps, deliver_keeps, update_keeps, predict_keeps}
use Rattle.direct.proofs.Found.{match_hands, road_hands}

-- ---- the cache's invariant

-- an open fetch that the state makes
pub inv_pending : (c : Cache) (arena : List ℕ) (p : Pending) → pending_fits p c ≡ true → Inv c → Inv (with_pending c p)
inv_pending c arena p fits f = record {
  pages = f.pages;
  places = f.places;
  ring = f.ring;
  live = f.live;
  load = f.load;
  pending = (ok_parts (with_pending c p) (pending_ok_lem c p (inv_ok c f) fits)).pending;
}

abbrev InvOver : Cache → List ℕ → Type 0
InvOver c arena = Inv c

touches : (c : Cache) (arena : List ℕ) (i : ℕ) → Inv c → Inv (touched c i)
touches c arena i f = inv_touched c i f

forgets : (c : Cache) (arena : List ℕ) (key : TileKey) → c.pages.count ≡ 0 → Inv c → Inv (forgot c key)
forgets c arena key z f = inv_forgot c key f

pub inv_stepped : (e : Engine) (arena : List ℕ) → Inv e.shared.cache → Inv (Engines.step e arena).engine.shared.cache
inv_stepped e arena f = step_keeps InvOver touches forgets inv_pending e arena f

pub inv_delivered : (e : Engine) (arena : List ℕ) (failure : ℕ) (bs : List ℕ) → Inv e.shared.cache
    → Inv (Engines.deliver e arena failure bs).engine.shared.cache
inv_delivered e arena failure bs f =
    deliver_keeps InvOver touches forgets inv_pending e arena failure bs f
    (λ key b same. inv_step f (load_is e.shared.cache arena e.shared.header key failure bs))

inv_lent : (e : Engine) (arena Q : List ℕ) {r : After} → Lends e arena Q r → Inv e.shared.cache → Inv r.engine.shared.cache
inv_lent e arena Q (Ways.plain t) f = inv_stepped e arena f
inv_lent e arena Q (Ways.asks offset len failure bs a fair) f =
    inv_delivered (Engines.step e arena).engine arena failure bs (inv_stepped e arena f)

-- what a change of the follower leaves of the cache
module _ (R : Cache → Type 0) where
  either_changed : (t : Bool) (x y : Changed) → R x.engine.shared.cache → R y.engine.shared.cache → R (cond t x y).engine.shared.cache
  either_changed true x y p q = p
  either_changed false x y p q = q

  pub fix_leaves : (e : Engine) (arena : List ℕ) (f : Fix) → R e.shared.cache → R (Engines.fix e arena f).engine.shared.cache
  unfolding Engines.fix
  fix_leaves e arena f r =
      either_changed (engine_ok e (length arena)) _ _ (either_changed (is_point f.lat f.lon) _ _ r r) r

  pub lost_leaves : (e : Engine) (arena : List ℕ) → R e.shared.cache → R (Engines.lost e arena).engine.shared.cache
  unfolding Engines.lost
  lost_leaves e arena r = either_changed (engine_ok e (length arena)) _ _ r r

  pub reset_leaves : (e : Engine) (arena : List ℕ) → R e.shared.cache → R (cleared e.shared.cache) → R (Engines.reset e arena).engine.shared.cache
  unfolding Engines.reset forgotten
  reset_leaves e arena r s = either_changed (engine_ok e (length arena)) _ _ s r

pub inv_after : (w : World) (c : Call) → Inv w.engine.shared.cache → Inv (exec c w).world.engine.shared.cache
unfolding exec
inv_after w (fix x) f = fix_leaves Inv w.engine w.arena x f
inv_after w lost f = lost_leaves Inv w.engine w.arena f
inv_after w (reset P) f = reset_leaves Inv w.engine w.arena f (inv_cleared w.engine.shared.cache f)
inv_after w step f = inv_stepped w.engine w.arena f
inv_after w (deliver failure bs) f = inv_delivered w.engine w.arena failure bs f
inv_after w (step_from Q) f = inv_lent w.engine w.arena Q (lends_is w.engine w.arena Q) f
inv_after w (read r) f = f
inv_after w (on_cache c) f = inv_call (cache_of w) c f
inv_after w (nearby h p) f = f
inv_after w (current m) f = f
inv_after w (update m h p heading) f =
    update_keeps InvOver touches m w.engine.shared.cache w.arena h p heading f
inv_after w (predict h m horizon samples behind) f =
    predict_keeps InvOver touches w.engine.shared.cache w.arena h m horizon samples behind f

-- ---- what is handed out

task_hands_lem : (x : Task) (e : Engine) (arena : List ℕ) → task_hands x e arena
task_hands_lem none e arena = tt
task_hands_lem (off_map f) e arena = tt
task_hands_lem (match f) e arena = match_hands e.shared.cache arena e.shared.header e.follower.matcher _ _
task_hands_lem (road f found) e arena = road_hands e.shared.cache arena e.shared.header found _ _ _

handed_after : (w : World) (c : Call) → HandedOut w c
handed_after w (fix x) = tt
handed_after w lost = tt
handed_after w (reset P) = tt
handed_after w step = task_hands_lem (task_of w.engine) w.engine w.arena
handed_after w (deliver failure bs) = tt
handed_after w (step_from Q) = task_hands_lem (task_of w.engine) w.engine w.arena
handed_after w (read r) = tt
handed_after w (on_cache c) = handed_call (cache_of w) c
handed_after w (nearby h p) = tt
handed_after w (current m) = tt
handed_after w (update m h p heading) = match_hands w.engine.shared.cache w.arena h m p heading
handed_after w (predict h m horizon samples behind) = road_hands w.engine.shared.cache w.arena h m horizon samples behind

-- ---- one read at most

one_of : (s : Result Status Refusal) → length (reads_of s) ≤ 1
one_of (Ok (Status.Fetch offset len)) = omega arith
one_of (Ok Status.Idle) = omega arith
one_of (Ok Status.Working) = omega arith
one_of (Ok Status.NoPack) = omega arith
one_of (Ok Status.OffMap) = omega arith
one_of (Err n) = omega arith

either_none : (t : Bool) (x y : Stepped) → is_fetch x.answer ≡ false → is_fetch y.answer ≡ false → is_fetch (cond t x y).answer ≡ false
either_none true x y p q = p
either_none false x y p q = q

loaded_none : (p : Result Progress Refusal) (e : Engine) (c : Cache) → is_fetch (loaded_by p e c).answer ≡ false
unfolding arrived load_failed
loaded_none (Ok Progress.Done) e c = refl
loaded_none (Ok Progress.More) e c = refl
loaded_none (Ok (Progress.Failed number)) e c = either_none (ltb e.follower.failures 7) _ _ refl refl
loaded_none (Err number) e c = refl

delivers_none : {e : Engine} {arena : List ℕ} {failure : ℕ} {bs : List ℕ} {r : After} → Delivers e arena failure bs r → is_fetch r.answer ≡ false
unfolding header_failed
delivers_none Ways.refuses = refl
delivers_none {e} (Ways.loses number o s) = either_none (eqb number 1 && ltb e.follower.failures 7) _ _ refl refl
delivers_none (Ways.parses o z s a) = refl
delivers_none {e} {arena} {failure} {bs} (Ways.brings key b) = loaded_none (brought e arena key failure bs).answer e (brought e arena key failure bs).cache

-- a delivery asks for nothing
pub deliver_none : (e : Engine) (arena : List ℕ) (failure : ℕ) (bs : List ℕ) → is_fetch (Engines.deliver e arena failure bs).answer ≡ false
unfolding Engines.deliver
deliver_none e arena failure bs = by (engine_ok e (length arena)) refl
  where
    by : (t : Bool) → engine_ok e (length arena) ≡ t → is_fetch (cond t (Delivered.delivered e arena failure bs) (over (refused e Refusal.BadState) arena)).answer ≡ false
    by true ok = delivers_none (deliver_is e arena ok failure bs)
    by false ok = refl

none_read : (s : Result Status Refusal) → is_fetch s ≡ false → reads_of s ≡ []
none_read (Ok (Status.Fetch offset len)) e = absurd (true≢false e)
none_read (Ok Status.Idle) e = refl
none_read (Ok Status.Working) e = refl
none_read (Ok Status.NoPack) e = refl
none_read (Ok Status.OffMap) e = refl
none_read (Err n) e = refl

one_lent : (s t : Result Status Refusal) → (is_fetch s ≡ true → is_fetch t ≡ false) → length (lent_reads s t) ≤ 1
one_lent (Ok (Status.Fetch offset len)) t e = rw (none_read t (e refl)) (omega arith)
one_lent (Ok Status.Idle) t e = omega arith
one_lent (Ok Status.Working) t e = omega arith
one_lent (Ok Status.NoPack) t e = omega arith
one_lent (Ok Status.OffMap) t e = omega arith
one_lent (Err n) t e = omega arith

lent_none : {e : Engine} {arena Q : List ℕ} {r : After} → Lends e arena Q r → is_fetch (Engines.step e arena).answer ≡ true → is_fetch r.answer ≡ false
lent_none (Ways.plain t) s = absurd (true≢false (sym s ∙ t))
lent_none {e} {arena} (Ways.asks offset len failure bs a fair) s = deliver_none (Engines.step e arena).engine arena failure bs

one_after : (w : World) (c : Call) → length (reads w c) ≤ 1
one_after w (fix x) = omega arith
one_after w lost = omega arith
one_after w (reset P) = omega arith
one_after w step = one_of (Engines.step w.engine w.arena).answer
one_after w (deliver failure bs) = one_of (Engines.deliver w.engine w.arena failure bs).answer
one_after w (step_from Q) =
    one_lent (Engines.step w.engine w.arena).answer (Engines.step_from w.engine w.arena Q).answer (lent_none (lends_is w.engine w.arena Q))
one_after w (read r) = omega arith
one_after w (on_cache c) = one_read_lem (cache_of w) c
one_after w (nearby h p) = omega arith
one_after w (current m) = omega arith
one_after w (update m h p heading) = omega arith
one_after w (predict h m horizon samples behind) = omega arith

-- ---- what is seen of a lent pack

module _ (arena Q R : List ℕ) where
  answered_only : (e : Engine) (offset len : ℕ) → SameAt offset len Q R
      → Engines.answered_from e arena offset len R ≡ Engines.answered_from e arena offset len Q
  unfolding Engines.answered_from Grid.read
  answered_only e offset len s = rw s.fits (by (leb (offset + len) (length Q)))
    where
      by : (t : Bool) → Engines.answered_by (cond t (Ok offset) (Err Refusal.PastPack)) e arena len R
          ≡ Engines.answered_by (cond t (Ok offset) (Err Refusal.PastPack)) e arena len Q
      by true = ap (λ (bs : List ℕ). Engines.deliver e arena 0 bs) s.bytes
      by false = refl

  lent_only_lem : (e : Engine) → SameFor (Engines.step e arena).answer Q R → Engines.step_from e arena R ≡ Engines.step_from e arena Q
  unfolding Engines.step_from
  lent_only_lem e = by (Engines.step e arena).answer
    where
      by : (a : Result Status Refusal) → SameFor a Q R → Engines.step_from_by a (Engines.step e arena) arena R ≡ Engines.step_from_by a (Engines.step e arena) arena Q
      by (Ok (Status.Fetch offset len)) s = answered_only (Engines.step e arena).engine offset len s
      by (Ok Status.Idle) s = refl
      by (Ok Status.Working) s = refl
      by (Ok Status.NoPack) s = refl
      by (Ok Status.OffMap) s = refl
      by (Err n) s = refl

only_after : (w : World) (c : Call) → LentOnly w c
unfolding exec
only_after w c = record {
  step = λ Q R q s. ap delivered (lent_only_lem w.arena Q R w.engine s) ∙ ap (λ (x : Call). exec x w) (sym q);
  load = λ x q. CacheSafe.lent_only_lem (cache_of w) x;
  delivery = λ failure bs q. ap (reads w) q ∙ none_read (Engines.deliver w.engine w.arena failure bs).answer (deliver_none w.engine w.arena failure bs);
}

-- ---- what a delivery takes

delivers_len : {e : Engine} {arena : List ℕ} {failure : ℕ} {bs : List ℕ} {r : After} → Delivers e arena failure bs r → failure ≡ 0 → number_of_result r.answer ≡ 0
    → HasLen (open_read e) (length bs)
delivers_len Ways.refuses z s = absurd (omega arith)
delivers_len (Ways.loses number o len) z s = rw o (len z)
delivers_len (Ways.parses o z' len a) z s = rw o len
delivers_len (Ways.brings key b) z s = rw b.asks (b.size z)

takes_len : (e : Engine) (arena : List ℕ) (failure : ℕ) (bs : List ℕ) → failure ≡ 0 → number_of_result (Engines.deliver e arena failure bs).answer ≡ 0
    → HasLen (open_read e) (length bs)
unfolding Engines.deliver
takes_len e arena failure bs z s = by (engine_ok e (length arena)) refl s
  where
    by : (t : Bool) → engine_ok e (length arena) ≡ t → number_of_result (cond t (Delivered.delivered e arena failure bs) (over (refused e Refusal.BadState) arena)).answer ≡ 0
        → HasLen (open_read e) (length bs)
    by true ok s = delivers_len (deliver_is e arena ok failure bs) z s
    by false ok s = absurd (omega arith)

takes_after : (w : World) (c : Call) → TakesOnly w c
unfolding exec
takes_after w (fix x) = tt
takes_after w lost = tt
takes_after w (reset P) = tt
takes_after w step = tt
takes_after w (deliver failure bs) = takes_len w.engine w.arena failure bs
takes_after w (step_from Q) = tt
takes_after w (read r) = tt
takes_after w (on_cache c) = takes_call (cache_of w) c
takes_after w (nearby h p) = tt
takes_after w (current m) = tt
takes_after w (update m h p heading) = tt
takes_after w (predict h m horizon samples behind) = tt

-- ---- what is written

delivers_write : {e : Engine} {arena : List ℕ} {failure : ℕ} {bs : List ℕ} {r : After} → Delivers e arena failure bs r
    → Written (OfChunk e.shared.cache.loading) arena r.arena
delivers_write {e} {arena} Ways.refuses = not_written _ arena
delivers_write {e} {arena} (Ways.loses number o len) = not_written _ arena
delivers_write {e} {arena} (Ways.parses o z len a) = not_written _ arena
delivers_write {e} {arena} {failure} {bs} (Ways.brings key b) = written_step (load_is e.shared.cache arena e.shared.header key failure bs)

pub deliver_writes : (e : Engine) (arena : List ℕ) (failure : ℕ) (bs : List ℕ)
    → Written (OfChunk e.shared.cache.loading) arena (Engines.deliver e arena failure bs).arena
unfolding Engines.deliver
deliver_writes e arena failure bs = by (engine_ok e (length arena)) refl
  where
    by : (t : Bool) → engine_ok e (length arena) ≡ t
        → Written (OfChunk e.shared.cache.loading) arena (cond t (Delivered.delivered e arena failure bs) (over (refused e Refusal.BadState) arena)).arena
    by true ok = delivers_write (deliver_is e arena ok failure bs)
    by false ok = not_written _ arena

-- a step changes no load
step_loading : (e : Engine) (arena : List ℕ) → (Engines.step e arena).engine.shared.cache.loading ≡ e.shared.cache.loading
unfolding touched forgot
step_loading e arena =
    step_keeps (λ (c : Cache) (arena : List ℕ). c.loading ≡ e.shared.cache.loading) (λ c arena i q. q) (λ c arena key z q. q) (λ c arena p f q. q) e arena refl

lent_writes : {e : Engine} {arena Q : List ℕ} {r : After} → Lends e arena Q r → Written (OfChunk e.shared.cache.loading) arena r.arena
lent_writes {e} {arena} (Ways.plain t) = not_written _ arena
lent_writes {e} {arena} (Ways.asks offset len failure bs a fair) =
    rw (step_loading e arena) at (deliver_writes (Engines.step e arena).engine arena failure bs)

pub written_after : (w : World) (c : Call) → Written (MayWrite (kind_of c) w.engine.shared.cache) w.arena (exec c w).world.arena
unfolding exec
written_after w (fix x) = not_written _ w.arena
written_after w lost = not_written _ w.arena
written_after w (reset P) = not_written _ w.arena
written_after w step = not_written _ w.arena
written_after w (deliver failure bs) = deliver_writes w.engine w.arena failure bs
written_after w (step_from Q) = lent_writes (lends_is w.engine w.arena Q)
written_after w (read r) = not_written _ w.arena
written_after w (on_cache c) = written_call (cache_of w) c
written_after w (nearby h p) = not_written _ w.arena
written_after w (current m) = not_written _ w.arena
written_after w (update m h p heading) = not_written _ w.arena
written_after w (predict h m horizon samples behind) = not_written _ w.arena

-- so no call writes a byte but those of the load's next chunk
pub chunk_after : (w : World) (c : Call) → Written (OfChunk w.engine.shared.cache.loading) w.arena (exec c w).world.arena
chunk_after w c = chunk_only (kind_of c) w.engine.shared.cache (written_after w c)

-- ---- what stays ready

-- a step changes no page
step_slots : (e : Engine) (arena : List ℕ) → (Engines.step e arena).engine.shared.cache.pages.slots ≡ e.shared.cache.pages.slots
unfolding touched forgot
step_slots e arena =
    step_keeps (λ (c : Cache) (arena : List ℕ). c.pages.slots ≡ e.shared.cache.pages.slots) (λ c arena i q. q) (λ c arena key z q. q)
    (λ c arena p f q. q) e arena refl

same_fresh : (s t : List Slot) → t ≡ s → Freshly s t
same_fresh s t q key h r = inl (ap (λ (x : List Slot). slot_at x h) q)

fresh_self : (s : List Slot) → Freshly s s
fresh_self s key h r = inl refl

abbrev slots_of : World → List Slot
slots_of w = w.engine.shared.cache.pages.slots

abbrev FreshOver : List Slot → Cache → List ℕ → Type 0
FreshOver s c arena = Freshly s c.pages.slots

fresh_delivered : (e : Engine) (arena : List ℕ) (failure : ℕ) (bs : List ℕ) → Inv e.shared.cache
    → Freshly e.shared.cache.pages.slots (Engines.deliver e arena failure bs).engine.shared.cache.pages.slots
unfolding touched forgot
fresh_delivered e arena failure bs f =
    let s = e.shared.cache.pages.slots in
    deliver_keeps (FreshOver s) (λ c arena i q. q) (λ c arena key z q. q) (λ c arena p fits q. q) e arena failure bs (fresh_self s)
    (λ key b same. fresh_step f (load_is e.shared.cache arena e.shared.header key failure bs))

fresh_lent : {e : Engine} {arena Q : List ℕ} {r : After} → Lends e arena Q r → Inv e.shared.cache
    → Freshly e.shared.cache.pages.slots r.engine.shared.cache.pages.slots
fresh_lent {e} {arena} (Ways.plain t) f = same_fresh _ _ (step_slots e arena)
fresh_lent {e} {arena} (Ways.asks offset len failure bs a fair) f =
    rw (step_slots e arena) at (fresh_delivered (Engines.step e arena).engine arena failure bs (inv_stepped e arena f))

fresh_after : (w : World) (c : Call) → Inv w.engine.shared.cache
    → Freshly w.engine.shared.cache.pages.slots (exec c w).world.engine.shared.cache.pages.slots
unfolding exec touched
fresh_after w (fix x) f = fix_leaves (λ (d : Cache). FreshOver (slots_of w) d []) w.engine w.arena x (fresh_self (slots_of w))
fresh_after w lost f = lost_leaves (λ (d : Cache). FreshOver (slots_of w) d []) w.engine w.arena (fresh_self (slots_of w))
fresh_after w (reset P) f =
    reset_leaves (λ (d : Cache). FreshOver (slots_of w) d []) w.engine w.arena (fresh_self (slots_of w))
    (fresh_cleared w.engine.shared.cache)
fresh_after w step f = same_fresh (slots_of w) _ (step_slots w.engine w.arena)
fresh_after w (deliver failure bs) f = fresh_delivered w.engine w.arena failure bs f
fresh_after w (step_from Q) f = fresh_lent (lends_is w.engine w.arena Q) f
fresh_after w (read r) f = fresh_self (slots_of w)
fresh_after w (on_cache c) f = fresh_call (cache_of w) c f
fresh_after w (nearby h p) f = fresh_self (slots_of w)
fresh_after w (current m) f = fresh_self (slots_of w)
fresh_after w (update m h p heading) f =
    update_keeps (FreshOver (slots_of w)) (λ c arena i q. q) m w.engine.shared.cache w.arena h p heading (fresh_self (slots_of w))
fresh_after w (predict h m horizon samples behind) f =
    predict_keeps (FreshOver (slots_of w)) (λ c arena i q. q) w.engine.shared.cache w.arena h m horizon samples behind
    (fresh_self (slots_of w))

kept_after : (w : World) (c : Call) → Inv w.engine.shared.cache → KeptBytes w c
kept_after w c f =
    bytes_kept w.engine.shared.cache f w.arena (exec c w).world.arena (chunk_after w c) (exec c w).world.engine.shared.cache.pages.slots
    (fresh_after w c f)

-- ---- a list

pub short_along : (cs : List Call) (w : World) → Inv w.engine.shared.cache → Along LeavesShort cs w
unfolding Along
short_along [] w f = tt
short_along (c ∷ cs) w f =
    let g : Inv (exec c w).world.engine.shared.cache = inv_after w c f in
    (inv_short (exec c w).world.engine.shared.cache g, short_along cs (exec c w).world g)

pub safe_along : (cs : List Call) (w : World) → Inv w.engine.shared.cache → Along Safe cs w
unfolding Along
safe_along [] w f = tt
safe_along (c ∷ cs) w f =
    let g : Inv (exec c w).world.engine.shared.cache = inv_after w c f in
    let safe : Safe w c = record {
      apart = inv_apart (exec c w).world.engine.shared.cache g;
      all_live = g.live;
      handed_out = handed_after w c;
      one_read = one_after w c;
      lent_only = only_after w c;
      takes_only = takes_after w c;
      written = written_after w c;
      kept = kept_after w c f;
    } in
    (safe, safe_along cs (exec c w).world g)
