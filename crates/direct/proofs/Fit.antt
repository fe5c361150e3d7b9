-- Under the premises: what the cache holds is the pack's and the header that was read is the pack's (`SharedFits`, of the shared part alone, whichever
-- follower a call is made on: `shared_after`), and a follower keeps the horizon that it was made with (`reach_after`). By the ways that a call goes.
use Rattle.refusal.specs.declared.Refusal.{Refusal}
use Rattle.std.specs.Prelude.{Result, Ok}
use Rattle.refusal.specs.Refusal.{number_of_result}
use Prim.Native.Nat.{ℕ, zero, suc, ◌+◌, ◌<◌, ◌≤◌}
use mathlib.Core.Path.{◌≡◌, refl, sym, ap, ◌∙◌}
use mathlib.Core.Bool.{Bool, true, false, not, cond}
use mathlib.Core.List.{List}
use mathlib.Core.Logic.{⊎_elim}
use native.Mathlib.Omega.{arith}
use lib.Dec.{eqb, ltb}
use lib.Ieee.{Float}
use lib.ListN.{length, take, drop, get_or, set, replicate, length-set, length-replicate}
use lib.Seq.{ext_get_or, get_or-set_same, get_or-set_other}
use Rattle.num.specs.Fold.{up_to}
use Rattle.num.specs.Order.{min}
use Rattle.pack.specs.Bytes.{byte_at}
use Rattle.pack.specs.Grid.{is_point}
use Rattle.pack.specs.declared.Header.{Header}
use Rattle.pack.specs.declared.TileKey.{TileKey}
use Rattle.cache.proofs.Below.{same_or}
use Rattle.geo.specs.Flat.{whole}
use Rattle.cache.specs.Lookups.{touched}
use Rattle.cache.specs.State.{fresh, cleared, pending_fits}
use Rattle.cache.specs.declared.Cache.{Cache}
use Rattle.cache.specs.declared.Pending.{Pending}
use Rattle.cache.specs.Loads as Loads
use Rattle.cache.specs.Loads.{forgot, told}
use Rattle.cache_lists.specs.Claims.{Parsed}
use Rattle.cache_lists.proofs.Steps.{Step, refuses, knows, uses, no_pages, fails, lacks, begins, goes_on, readies, spoils, load_is}
use Rattle.cache_lists.proofs.Direct.{direct_none}
use Rattle.cache_lists.proofs.Inv.{inv_cleared}
use Rattle.cache_lists.proofs.Kept.{Kept, kept_fresh, kept_touched, kept_forgot}
use Rattle.cache_lists.proofs.Same.{header_is, kept_step, given, kept_call}
use Rattle.engine.specs.Follow as Followers
use Rattle.engine.specs.Fixes.{is_same_place}
use Rattle.engine.specs.declared.Fix.{Fix}
use Rattle.engine.specs.declared.Follower.{Follower}
use Rattle.engine.specs.State.{unchanged, engine_ok, forgotten}
use Rattle.engine.specs.Deliver.{After, with_pending, sector_of, arrived, load_failed, loaded}
use Rattle.engine.specs.Calls as Engines
use Rattle.engine.specs.declared.Changed.{Changed}
use Rattle.engine.specs.declared.Engine.{Engine}
use Rattle.engine.specs.declared.Phase.{Phase}
use Rattle.engine.specs.declared.Shared.{Shared}
use Rattle.engine.specs.declared.Status.{Status}
use Rattle.engine.specs.declared.Stepped.{Stepped}
use Rattle.engine_states.proofs.RefusedSame.{step_open}
use Rattle.direct.specs.Lists.{World, Call, fix, lost, reset, step, deliver, step_from, read, on_cache, nearby, current, update, predict, cache_of, exec, start}
use Rattle.direct.specs.Direct.{header_of, pack_after}
use Rattle.direct.specs.Claims.{told_of, open_read, FairBytes, FairLent, Fair}
use Rattle.engine_states.proofs.Ways as Ways
use Rattle.engine_states.proofs.Ways.{Brings, brought, Yields, Lends, lends_is}
use Rattle.direct.proofs.Changes.{step_keeps, deliver_keeps, update_keeps, predict_keeps}
use Rattle.direct.proofs.Safe.{inv_pending}
use Rattle.direct.proofs.Beside as Sides
use Rattle.direct.proofs.Beside.{Beside, Heads, step_beside, deliver_left}

-- ---- a sector of 512 bytes is those bytes

module _ (bs : List ℕ) where
  abbrev filled_to : ℕ → List ℕ
  filled_to k = up_to (λ (out : List ℕ) (i : ℕ). set out i (byte_at bs i)) (replicate 512 0) k

  filled_length : (k : ℕ) → length (filled_to k) ≡ 512
  unfolding up_to
  filled_length zero = length-replicate {A = ℕ} 512 0
  filled_length (suc k) = length-set (filled_to k) k (byte_at bs k) ∙ filled_length k

  filled_at : (k : ℕ) → k ≤ 512 → (i : ℕ) → i < k → get_or (filled_to k) i 0 ≡ byte_at bs i
  unfolding up_to
  filled_at zero few i below = absurd (omega arith)
  filled_at (suc k) few i below = ⊎_elim now (λ e. before e (filled_at k (omega arith) i (omega (arith, e)))) (same_or i k)
    where
      now : i ≡ k → get_or (set (filled_to k) k (byte_at bs k)) i 0 ≡ byte_at bs i
      now e = rw e (get_or-set_same (filled_to k) k (byte_at bs k) 0 (omega (arith, filled_length k)))

      before : (i ≡ k → ⊥) → get_or (filled_to k) i 0 ≡ byte_at bs i → get_or (set (filled_to k) k (byte_at bs k)) i 0 ≡ byte_at bs i
      before e was = get_or-set_other (filled_to k) k i (byte_at bs k) 0 e ∙ was

  sector_whole : length bs ≡ 512 → sector_of bs ≡ bs
  unfolding sector_of
  sector_whole size = ext_get_or 0 (filled_to 512) bs (filled_length 512 ∙ sym size) (λ i below. filled_at 512 (omega arith) i (omega (arith, filled_length 512)))

-- ---- the invariant

-- the header that was read is the pack's
abbrev pub HeaderFits : List ℕ → Phase → Header → Type 0
HeaderFits P Phase.Ready h = Parsed P h
HeaderFits P Phase.Unread h = Unit
HeaderFits P Phase.Failed h = Unit

abbrev pub KeptOver : List ℕ → ℕ → Cache → List ℕ → Type 0
KeptOver P n c arena = Kept P (header_of P) n c arena

-- what is shared, against the pack
pub record SharedFits (P : List ℕ) (n : ℕ) (s : Shared) (arena : List ℕ) : Type 0 where
  pub cache : KeptOver P n s.cache arena
  pub header : HeaderFits P s.phase s.header

-- one follower's: the horizon that it was made with
abbrev pub Reaches : Float → Follower → Type 0
Reaches horizon f = f.horizon_m ≡ min horizon (whole 10000)

pub record Fit (P : List ℕ) (n : ℕ) (horizon : Float) (w : World) : Type 0 where
  pub shared : SharedFits P n w.engine.shared w.arena
  pub reach : Reaches horizon w.engine.follower

fixed_reach : (f : Follower) (x : Fix) → (Followers.fixed f x).horizon_m ≡ f.horizon_m
unfolding Followers.fixed
fixed_reach f x = by (is_same_place f.sight.fix x) _ refl
  where
    by : (t : Bool) (g : Follower) → g.horizon_m ≡ f.horizon_m → (cond t f g).horizon_m ≡ f.horizon_m
    by true g e = refl
    by false g e = e

module _ (P : List ℕ) (n : ℕ) where
  -- ---- the cache

  touches : (c : Cache) (arena : List ℕ) (i : ℕ) → KeptOver P n c arena → KeptOver P n (touched c i) arena
  touches c arena i k = kept_touched P (header_of P) n c arena i k

  forgets : (c : Cache) (arena : List ℕ) (key : TileKey) → c.pages.count ≡ 0 → KeptOver P n c arena → KeptOver P n (forgot c key) arena
  forgets c arena key z k = kept_forgot P (header_of P) n c arena key (direct_none P (header_of P) n key (sym k.count ∙ z)) k

  pends : (c : Cache) (arena : List ℕ) (p : Pending) → pending_fits p c ≡ true → KeptOver P n c arena → KeptOver P n (with_pending c p) arena
  pends c arena p fits k =
      record { inv = inv_pending c arena p fits k.inv; count = k.count; slots = k.slots; ring = k.ring; load = k.load }

  pub kept_stepped : (e : Engine) (arena : List ℕ) → KeptOver P n e.shared.cache arena → KeptOver P n (Engines.step e arena).engine.shared.cache arena
  kept_stepped e arena k = step_keeps (KeptOver P n) touches forgets pends e arena k

  -- a part of a tile came
  module _ (e : Engine) (arena : List ℕ) (failure : ℕ) (bs : List ℕ) (k : KeptOver P n e.shared.cache arena) where
    either_number : (t : Bool) (x y : Stepped) → number_of_result x.answer ≡ 0 → number_of_result y.answer ≡ 0 → number_of_result (cond t x y).answer ≡ 0
    either_number true x y p q = p
    either_number false x y p q = q

    -- one that is refused changes nothing
    part_by : {h : Header} {key : TileKey} {r : Loads.After} → Step e.shared.cache arena h key failure bs r
        → (number_of_result (loaded e (told r)).answer ≡ 0 → KeptOver P n r.cache r.arena) → KeptOver P n r.cache r.arena
    unfolding arrived load_failed
    part_by (refuses number s) f = k
    part_by (knows q) f = f refl
    part_by (uses i q) f = f refl
    part_by (no_pages q) f = f refl
    part_by (fails number) f = f (either_number (ltb e.follower.failures 7) _ _ refl refl)
    part_by (lacks came s) f = f refl
    part_by (begins came offset len slot q s v) f = f refl
    part_by (goes_on l came b) f = f refl
    part_by (readies l came b p) f = f refl
    part_by (spoils l came b p) f = f refl

    module _ (fits : HeaderFits P e.shared.phase e.shared.header)
        (fair : number_of_result (Engines.deliver e arena failure bs).answer ≡ 0 → failure ≡ 0 → FairBytes P (open_read e) bs) where
      part : (key : TileKey) (b : Brings e arena key failure bs)
          → number_of_result (loaded e (told (brought e arena key failure bs))).answer ≡ number_of_result (Engines.deliver e arena failure bs).answer
          → KeptOver P n (brought e arena key failure bs).cache (brought e arena key failure bs).arena
      part key b same =
          let h : Header = e.shared.header in
          let parsed : Parsed P h = rw b.ready at fits in
          let goes : Step e.shared.cache arena h key failure bs (brought e arena key failure bs) = load_is e.shared.cache arena h key failure bs in
          part_by goes
          (λ z. rw (header_is parsed)
          (kept_step P h n key e.shared.cache arena (given P n parsed k) failure bs
          (λ y. rw b.fetches (rw b.asks at (fair (sym same ∙ z) y))) goes))

      pub kept_delivered : KeptOver P n (Engines.deliver e arena failure bs).engine.shared.cache (Engines.deliver e arena failure bs).arena
      kept_delivered = deliver_keeps (KeptOver P n) touches forgets pends e arena failure bs k part

      -- the header that came is the pack's
      heads_fit : {a : Result Status Refusal} {p : Phase} {h : Header} → Heads e failure bs a p h → a ≡ (Engines.deliver e arena failure bs).answer → HeaderFits P p h
      heads_fit Sides.kept same = fits
      heads_fit Sides.unread same = tt
      heads_fit Sides.failed same = tt
      heads_fit (Sides.came o z size a) same =
          let pack : (0 + 512 ≤ length P) × (bs ≡ take 512 (drop 0 P)) = (rw o at (fair (ap number_of_result (sym same)) z)) size in
          let is : sector_of bs ≡ take 512 P = sector_whole bs size ∙ pack.1 in
          record { whole = pack.0; parses = rw is at a }

  -- ---- a step, a delivery, the lent-pack form

  module _ (e : Engine) (arena : List ℕ) (f : SharedFits P n e.shared arena) where
    pub shared_stepped : SharedFits P n (Engines.step e arena).engine.shared arena
    shared_stepped =
        let b : Beside e (Engines.step e arena).engine = step_beside e arena in
        record { cache = kept_stepped e arena f.cache; header = rw (b.phase, b.header) f.header }

    shared_delivered : (failure : ℕ) (bs : List ℕ) → (number_of_result (Engines.deliver e arena failure bs).answer ≡ 0 → failure ≡ 0 → FairBytes P (open_read e) bs)
        → SharedFits P n (Engines.deliver e arena failure bs).engine.shared (Engines.deliver e arena failure bs).arena
    shared_delivered failure bs fair = record {
      cache = kept_delivered e arena failure bs f.cache f.header fair;
      header = heads_fit e arena failure bs f.cache f.header fair (deliver_left e failure bs arena).heads refl;
    }

  -- what a lent pack yields is the pack's where the lent one is
  yields_fair : (offset len : ℕ) (Q : List ℕ) {failure : ℕ} {bs : List ℕ} → Yields Q offset len failure bs → FairLent P (Ok (Status.Fetch offset len)) Q → failure ≡ 0
      → FairBytes P (Ok (Status.Fetch offset len)) bs
  yields_fair offset len Q (Ways.bytes there) fair z = λ size. fair there
  yields_fair offset len Q Ways.past fair z = absurd (omega arith)

  -- the lent-pack form
  shared_lent : (e : Engine) (arena Q : List ℕ) {r : After} → Lends e arena Q r → FairLent P (Engines.step e arena).answer Q
      → SharedFits P n e.shared arena → SharedFits P n r.engine.shared r.arena
  shared_lent e arena Q (Ways.plain t) fair f = shared_stepped e arena f
  shared_lent e arena Q (Ways.asks offset len failure bs a yields) fair f =
      shared_delivered (Engines.step e arena).engine arena (shared_stepped e arena f) failure bs
      (λ z y. rw (step_open e arena a) (yields_fair offset len Q yields (rw a at fair) y))

  -- ---- fixes leave it

  either_shared : (arena : List ℕ) (t : Bool) (x y : Changed) → SharedFits P n x.engine.shared arena → SharedFits P n y.engine.shared arena
      → SharedFits P n (cond t x y).engine.shared arena
  either_shared arena true x y p q = p
  either_shared arena false x y p q = q

  shared_fix : (e : Engine) (arena : List ℕ) (x : Fix) → SharedFits P n e.shared arena → SharedFits P n (Engines.fix e arena x).engine.shared arena
  unfolding Engines.fix
  shared_fix e arena x f = either_shared arena (engine_ok e (length arena)) _ _ (either_shared arena (is_point x.lat x.lon) _ _ f f) f

  shared_lost : (e : Engine) (arena : List ℕ) → SharedFits P n e.shared arena → SharedFits P n (Engines.lost e arena).engine.shared arena
  unfolding Engines.lost
  shared_lost e arena f = either_shared arena (engine_ok e (length arena)) _ _ f f

-- ---- a reset: nothing is held of the pack before

-- a cleared cache is one of any pack
cleared_fits : (P Q : List ℕ) (n : ℕ) (c : Cache) (arena : List ℕ) → KeptOver P n c arena → KeptOver Q n (cleared c) arena
unfolding cleared fresh
cleared_fits P Q n c arena k =
    let e : KeptOver Q n (fresh n) arena = kept_fresh Q (header_of Q) n arena (rw k.count at k.inv.pages.small) in
    record { inv = inv_cleared c k.inv; count = k.count; slots = e.slots; ring = e.ring; load = tt }

shared_reset : (P Q : List ℕ) (n : ℕ) (w : World) → SharedFits P n w.engine.shared w.arena
    → SharedFits (pack_after P (reset Q) (told_of w (reset Q))) n (exec (reset Q) w).world.engine.shared w.arena
unfolding exec Engines.reset forgotten
shared_reset P Q n w f = by (engine_ok w.engine (length w.arena))
  where
    left : Bool → Changed
    left t = cond t (forgotten w.engine) (unchanged w.engine Refusal.BadState)

    by : (t : Bool) → SharedFits (cond (not (eqb (number_of_result (left t).answer) 0)) P Q) n (left t).engine.shared w.arena
    by true = record { cache = cleared_fits P Q n w.engine.shared.cache w.arena f.cache; header = tt }
    by false = f

-- ---- what is shared, after a call on any follower

pub shared_after : (P : List ℕ) (n : ℕ) (w : World) (c : Call) → SharedFits P n w.engine.shared w.arena → Fair P w c
    → SharedFits (pack_after P c (told_of w c)) n (exec c w).world.engine.shared (exec c w).world.arena
unfolding exec
shared_after P n w (fix x) f fair = shared_fix P n w.engine w.arena x f
shared_after P n w lost f fair = shared_lost P n w.engine w.arena f
shared_after P n w (reset Q) f fair = shared_reset P Q n w f
shared_after P n w step f fair = shared_stepped P n w.engine w.arena f
shared_after P n w (deliver failure bs) f fair = shared_delivered P n w.engine w.arena f failure bs fair
shared_after P n w (step_from Q) f fair = shared_lent P n w.engine w.arena Q (lends_is w.engine w.arena Q) fair f
shared_after P n w (read r) f fair = f
shared_after P n w (on_cache c) f fair = record { cache = kept_call P n (cache_of w) c f.cache fair; header = f.header }
shared_after P n w (nearby h p) f fair = f
shared_after P n w (current m) f fair = f
shared_after P n w (update m h p heading) f fair = record {
  cache = update_keeps (KeptOver P n) (touches P n) m w.engine.shared.cache w.arena h p heading f.cache;
  header = f.header;
}
shared_after P n w (predict h m reach samples behind) f fair = record {
  cache = predict_keeps (KeptOver P n) (touches P n) w.engine.shared.cache w.arena h m reach samples behind f.cache;
  header = f.header;
}

-- ---- a follower's horizon, after a call on it

module _ (horizon : Float) where
  either_reach : (t : Bool) (x y : Changed) → Reaches horizon x.engine.follower → Reaches horizon y.engine.follower
      → Reaches horizon (cond t x y).engine.follower
  either_reach true x y p q = p
  either_reach false x y p q = q

  step_reach : (e : Engine) (arena : List ℕ) → Reaches horizon e.follower → Reaches horizon (Engines.step e arena).engine.follower
  step_reach e arena r = (step_beside e arena).horizon ∙ r

  lent_reach : (e : Engine) (arena Q : List ℕ) {a : After} → Lends e arena Q a → Reaches horizon e.follower → Reaches horizon a.engine.follower
  lent_reach e arena Q (Ways.plain t) r = step_reach e arena r
  lent_reach e arena Q (Ways.asks offset len failure bs a yields) r =
      (deliver_left (Engines.step e arena).engine failure bs arena).follower.horizon ∙ step_reach e arena r

  pub reach_after : (w : World) (c : Call) → Reaches horizon w.engine.follower → Reaches horizon (exec c w).world.engine.follower
  unfolding exec Engines.fix Engines.lost Engines.reset forgotten Followers.lost Followers.reset
  reach_after w (fix x) r =
      either_reach (engine_ok w.engine (length w.arena)) _ _
      (either_reach (is_point x.lat x.lon) _ _ (fixed_reach w.engine.follower x ∙ r) r) r
  reach_after w lost r = either_reach (engine_ok w.engine (length w.arena)) _ _ r r
  reach_after w (reset Q) r = either_reach (engine_ok w.engine (length w.arena)) _ _ r r
  reach_after w step r = step_reach w.engine w.arena r
  reach_after w (deliver failure bs) r = (deliver_left w.engine failure bs w.arena).follower.horizon ∙ r
  reach_after w (step_from Q) r = lent_reach w.engine w.arena Q (lends_is w.engine w.arena Q) r
  reach_after w (read x) r = r
  reach_after w (on_cache c) r = r
  reach_after w (nearby h p) r = r
  reach_after w (current m) r = r
  reach_after w (update m h p heading) r = r
  reach_after w (predict h m reach samples behind) r = r

-- ---- an engine of one follower

pub fit_after : (P : List ℕ) (n : ℕ) (horizon : Float) (w : World) (c : Call) → Fit P n horizon w → Fair P w c
    → Fit (pack_after P c (told_of w c)) n horizon (exec c w).world
fit_after P n horizon w c f fair = record { shared = shared_after P n w c f.shared fair; reach = reach_after horizon w c f.reach }

pub fit_stepped : (P : List ℕ) (n : ℕ) (horizon : Float) (e : Engine) (arena : List ℕ) → Fit P n horizon (record { engine = e; arena = arena })
    → Fit P n horizon (record { engine = (Engines.step e arena).engine; arena = arena })
fit_stepped P n horizon e arena f = record { shared = shared_stepped P n e arena f.shared; reach = step_reach horizon e arena f.reach }

pub fit_start : (P : List ℕ) (n : ℕ) (horizon : Float) (arena : List ℕ) → n ≤ 96 → Fit P n horizon (start n horizon arena)
unfolding Followers.fresh
fit_start P n horizon arena few = record { shared = record { cache = kept_fresh P (header_of P) n arena few; header = tt }; reach = refl }
