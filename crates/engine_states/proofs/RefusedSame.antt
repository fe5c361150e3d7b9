-- A refused call leaves engine and arena as they were (`refused_same`). A step and a delivery by their cases. The lent-pack form delivers to the engine
-- that its step leaves, with the fetch opened: that delivery is never refused (`answer_taken`), since it is the whole of what the fetch asks for, or
-- failure 2, and the fetch is one that the state makes.
use Prim.Native.Nat.{ℕ, ◌+◌, ◌-◌, ◌<◌, ◌≤◌}
use mathlib.Core.Path.{◌≡◌, refl, sym, ap, subst, ◌∙◌}
use mathlib.Core.Bool.{Bool, true, false, ◌&&◌, not, cond, true≢false}
use mathlib.Core.List.{List, []}
use native.Mathlib.Omega.{arith}
use borrow.Author.Tests.{eq-eqb, lt-ltb, ltb-true}
use lib.Dec.{eqb, ltb, leb}
use lib.IntN.{pos}
use lib.ListN.{length, replicate, length-take, length-drop}
use Rattle.std.specs.Prelude.{Option, Some, None, Result, Ok, Err}
use Rattle.refusal.specs.Refusal.{number_of}
use Rattle.refusal.specs.declared.Refusal.{Refusal}
use Rattle.pack.specs.Grid.{is_point, in_grid, key_of, locate_of, read}
use Rattle.pack.specs.Sector.{parse}
use Rattle.pack.specs.declared.Header.{Header}
use Rattle.pack.specs.declared.TileKey.{TileKey}
use Rattle.pack.proofs.Laws.{read_at}
use Rattle.cache.specs.Begin.{begun}
use Rattle.cache.specs.Keys.{same_key, holds}
use Rattle.cache.specs.Runs.{slot_at, is_run, kind_of}
use Rattle.cache.specs.State.{is_entry, is_chunk, wants_chunk_of, tile_loads, loads_ok, state_ok}
use Rattle.cache.proofs.Below.{and_left, and_right}
use Rattle.cache.proofs.FromLaws.{next_chunk}
use Rattle.cache.specs.declared.Cache.{Cache}
use Rattle.cache.specs.declared.Loaded.{Loaded}
use Rattle.cache.specs.declared.Loading.{Loading}
use Rattle.cache.specs.declared.Pages.{Pages}
use Rattle.cache.specs.declared.Progress.{Progress}
use Rattle.cache.specs.Lookups.{next_step}
use Rattle.cache.specs.declared.Pending.{Pending}
use Rattle.cache.specs.declared.next.Next.{Next}
use Rattle.cache.specs.Loads as Loads
use Rattle.cache.specs.Loads.{pack_bytes}
use Rattle.cache.specs.Calls.{load_tested}
use Rattle.matcher.specs.declared.Matched.{Matched}
use Rattle.matcher.specs.Gather.{updated}
use Rattle.matcher.specs.declared.Outcome as MatchOutcome
use Rattle.matcher.specs.declared.Outcome.TheVariants as Found
use Rattle.matcher.specs.declared.Updated.{Updated}
use Rattle.predict.specs.Predict as Predict
use Rattle.predict.specs.Predict.{predicted_in}
use Rattle.predict.specs.declared.Outcome as RoadOutcome
use Rattle.predict.specs.declared.Outcome.TheVariants as Road
use Rattle.engine.specs.Fixes.{place_of}
use Rattle.engine.specs.declared.Fix.{Fix}
use Rattle.engine.specs.declared.Follower.{Follower}
use Rattle.engine.specs.Calls as Calls
use Rattle.engine.specs.State.{refused, forgotten, is_ready, need_ok, pending_ok, reload_limit, engine_ok}
use Rattle.engine.specs.Deliver.{After, over, arrived, header_failed, header_parsed, header_came, sector_of, fits_header, load_failed, loaded_by, loaded, part_came, need_came_by, delivered_by, delivered}
use Rattle.engine.specs.Work.{may_ask, match_ended_by, match_step, road_ended_by, road_step, road_due_by, in_grid_step, at_fix_by, at_fix, worked_by, worked, counted}
use Rattle.engine.specs.Steps.{awaits_read, pending_for, need_step, ready_by, started_by, started, chunk_request, request_of, stepped_by, stepped}
use Rattle.engine.specs.declared.Changed.{Changed}
use Rattle.engine.specs.declared.Engine.{Engine}
use Rattle.engine.specs.declared.Phase.{Phase}
use Rattle.engine.specs.declared.Status.{Status}
use Rattle.engine.specs.declared.Stepped.{Stepped}
use Rattle.engine.proofs.FetchLaws.{is_open, open_repeats, Opening, opening_is_pending}
use Rattle.engine_states.specs.Refused.{is_refused, is_taken, RefusedSame}
use Rattle.engine.proofs.NeedLaws.{part_cases}
use Rattle.engine_states.proofs.CacheKept.{ok_parts}
use Rattle.engine_states.proofs.KeptParts.{apart}
use Rattle.engine_states.proofs.EngineKept.{same_key_lem, state_is, ready_is, is_read, open_fits}
use Rattle.engine_states.proofs.EngineClosed.{step_ok}

-- ---- a step

-- refused, with the engine as it was; or not refused
abbrev Leaves : Engine → Stepped → Type 0
Leaves e s = is_refused s.answer ≡ true → s.engine ≡ e

either : (e : Engine) (t : Bool) (x y : Stepped) → Leaves e x → Leaves e y → Leaves e (cond t x y)
either e true x y p q = p
either e false x y p q = q

asks_not : (t : Bool) → is_refused (cond t (Ok Status.Working) (Ok Status.Idle)) ≡ false
asks_not true = refl
asks_not false = refl

module _ (e : Engine) (arena : List ℕ) (f : Follower) (fix : Fix) where
  match_leaves : (x : Result MatchOutcome.Outcome Refusal) (u : Updated) → Leaves e (match_ended_by x e f fix u)
  match_leaves (Ok (Found.Found m)) u r = absurd (true≢false (sym r))
  match_leaves (Ok Found.Nothing) u r = absurd (true≢false (sym r))
  match_leaves (Ok (Found.Need key)) u r = absurd (true≢false (sym r ∙ asks_not (may_ask f.due u.cache.pages.count)))
  match_leaves (Err number) u r = refl

  road_leaves : (x : Result RoadOutcome.Outcome Refusal) (found : Matched) (y : Predict.After) → Leaves e (road_ended_by x e f fix found y)
  road_leaves (Ok (Road.Road p)) found y r = absurd (true≢false (sym r))
  road_leaves (Ok (Road.Need key)) found y r = absurd (true≢false (sym r))
  road_leaves (Ok Road.Rematch) found y r = absurd (true≢false (sym r))
  road_leaves (Err refusal) found y r = either e (eqb (number_of refusal) 10) _ _ (λ z. absurd (true≢false (sym z))) (λ z. refl) r

  due_leaves : (m : Option Matched) → Leaves e (road_due_by m e arena f fix)
  unfolding road_step
  due_leaves (Some found) r =
      let x = predicted_in e.shared.cache arena e.shared.header found f.horizon_m (replicate 501 (pos 0)) (replicate 11 (pos 0)) in
      road_leaves x.predicted.answer found x r
  due_leaves None r = absurd (true≢false (sym r))

  grid_leaves : Leaves e (in_grid_step e arena f fix)
  unfolding match_step
  grid_leaves =
      let u = updated f.matcher e.shared.cache arena e.shared.header (place_of fix) f.sight.heading in
      either e f.due.matching _ _ (match_leaves u.answer u)
      (either e f.due.road _ _ (due_leaves f.matcher.current) (λ r. absurd (true≢false (sym r))))

  fix_leaves : (k : Option TileKey) → Leaves e (at_fix_by k e arena f fix)
  fix_leaves (Some key) r = grid_leaves r
  fix_leaves None r = absurd (true≢false (sym r))

work_leaves : (m : Option Fix) (e : Engine) (arena : List ℕ) (f : Follower) → Leaves e (worked_by m e arena f)
unfolding at_fix
work_leaves None e arena f r = absurd (true≢false (sym r))
work_leaves (Some fix) e arena f r = fix_leaves e arena f fix (key_of e.shared.header fix.lat fix.lon) r

-- a tile that is settled
settled_leaves : (p : Result Progress Refusal) (e : Engine) (c : Cache) → Leaves e (loaded_by p e c)
unfolding arrived load_failed
settled_leaves (Ok Progress.Done) e c r = absurd (true≢false (sym r))
settled_leaves (Ok Progress.More) e c r = absurd (true≢false (sym r))
settled_leaves (Ok (Progress.Failed number)) e c r =
    either e (ltb e.follower.failures 7) _ _ (λ z. absurd (true≢false (sym z))) (λ z. absurd (true≢false (sym z))) r
settled_leaves (Err number) e c r = refl

-- a fetch that is opened is never refused: a chunk is asked for only where there is a load
opened_asks : (x : Option Loading) (e : Engine) (key : TileKey) → e.shared.cache.loading ≡ x → is_refused (request_of e.shared (pending_for x key)) ≡ false
opened_asks None e key q = refl
opened_asks (Some l) e key q = by (same_key l.key key)
  where
    by : (t : Bool) → is_refused (request_of e.shared (cond t Pending.Chunk (Pending.Entry key))) ≡ false
    by true = rw q
    by false = refl

need_leaves : (e : Engine) (arena : List ℕ) (key : TileKey) → Leaves e (need_step e arena key)
unfolding need_step
need_leaves e arena key =
    let l = Loads.told (load_tested e.shared.cache arena e.shared.header key 0 []) in
    either e (awaits_read l.answer) _ _
    (λ r. absurd (true≢false (sym r ∙ opened_asks e.shared.cache.loading e key refl)))
    (settled_leaves l.answer e l.cache)

ready_leaves : (m : Option TileKey) (e : Engine) (arena : List ℕ) → Leaves e (ready_by m e arena)
unfolding worked
ready_leaves (Some key) e arena = need_leaves e arena key
ready_leaves None e arena = work_leaves e.follower.sight.fix e arena (counted e.follower)

phase_leaves : (p : Phase) (e : Engine) (arena : List ℕ) → Leaves e (started_by p e arena)
phase_leaves Phase.Failed e arena r = refl
phase_leaves Phase.Unread e arena r = absurd (true≢false (sym r))
phase_leaves Phase.Ready e arena r = ready_leaves e.follower.due.need e arena r

open_leaves : (p : Pending) (e : Engine) (arena : List ℕ) → Leaves e (stepped_by p e arena)
unfolding started
open_leaves Pending.Nothing e arena r = phase_leaves e.shared.phase e arena r
open_leaves Pending.Header e arena r = refl
open_leaves (Pending.Entry key) e arena r = refl
open_leaves Pending.Chunk e arena r = refl

-- the arena is lent unchanged
pub step_refused : (e : Engine) (arena : List ℕ) → is_refused (Calls.step e arena).answer ≡ true → (Calls.step e arena).engine ≡ e
unfolding Calls.step stepped
step_refused e arena = either e (engine_ok e (length arena)) _ _ (open_leaves e.shared.cache.pending e arena) (λ r. refl)

-- ---- a part of a tile

abbrev is_refusal : Result Progress Refusal → Bool
is_refusal (Err number) = true
is_refusal (Ok Progress.Done) = false
is_refusal (Ok Progress.More) = false
is_refusal (Ok (Progress.Failed number)) = false

either_answer : (t : Bool) (x y : Loads.After) → is_refusal x.answer ≡ false → is_refusal y.answer ≡ false → is_refusal (cond t x y).answer ≡ false
either_answer true x y p q = p
either_answer false x y p q = q

either_loaded : (t : Bool) (x y : Loaded) → is_refusal x.answer ≡ false → is_refusal y.answer ≡ false → is_refusal (cond t x y).answer ≡ false
either_loaded true x y p q = p
either_loaded false x y p q = q

module _ (c : Cache) (arena : List ℕ) (h : Header) (key : TileKey) (failure : ℕ) (bs : List ℕ) where
  began_taken : (x : Option ℕ) (d : Cache) (g : Pages) (offset len : ℕ) → is_refusal (Loads.began_at x d g key offset len).answer ≡ false
  began_taken None d g offset len = refl
  began_taken (Some slot) d g offset len = refl

  located_taken : (x : Result (Option (ℕ × ℕ)) Refusal) (d : Cache) → is_refusal (Loads.located x d key).answer ≡ false
  unfolding Loads.began
  located_taken (Ok None) d = refl
  located_taken (Err number) d = refl
  located_taken (Ok (Some (offset, len))) d =
      let b = begun d.pages key len in either_loaded (ltb 49152 len) _ _ refl (began_taken b.at d b.pages offset len)

  -- a read that was made is not refused
  read_taken : (n : Next) → is_read n ≡ true → is_refusal (Loads.stepped c n arena h key failure bs).answer ≡ false
  unfolding Loads.entry_step Loads.chunk_step
  read_taken Next.Entry r = either_loaded (eqb failure 0) _ _ (located_taken (locate_of h bs) (Loads.dropped c)) refl
  read_taken (Next.Chunk l) r =
      either_answer (eqb failure 0) _ _ (either_answer (ltb (l.done + Loads.chunk_len l) l.len) _ _ refl refl) refl
  read_taken (Next.Ready i) r = absurd (true≢false (sym r))
  read_taken Next.Missing r = absurd (true≢false (sym r))
  read_taken Next.NoPages r = absurd (true≢false (sym r))

  -- and what is refused writes nothing
  refused_unwritten : (n : Next) → is_refusal (Loads.stepped c n arena h key failure bs).answer ≡ true → (Loads.stepped c n arena h key failure bs).arena ≡ arena
  refused_unwritten (Next.Ready i) r = refl
  refused_unwritten Next.Missing r = refl
  refused_unwritten Next.NoPages r = refl
  refused_unwritten Next.Entry r = refl
  refused_unwritten (Next.Chunk l) r = absurd (true≢false (sym r ∙ read_taken (Next.Chunk l) refl))

either_status : (t : Bool) (x y : Stepped) → is_refused x.answer ≡ false → is_refused y.answer ≡ false → is_refused (cond t x y).answer ≡ false
either_status true x y p q = p
either_status false x y p q = q

module _ (e : Engine) where
  loaded_taken : (p : Result Progress Refusal) (c : Cache) → is_refusal p ≡ false → is_refused (loaded_by p e c).answer ≡ false
  unfolding arrived load_failed
  loaded_taken (Ok Progress.Done) c r = refl
  loaded_taken (Ok Progress.More) c r = refl
  loaded_taken (Ok (Progress.Failed number)) c r = either_status (ltb e.follower.failures 7) _ _ refl refl
  loaded_taken (Err number) c r = absurd (true≢false r)

  loaded_refusal : (p : Result Progress Refusal) (c : Cache) → is_refused (loaded_by p e c).answer ≡ true → (is_refusal p ≡ true) × ((loaded_by p e c).engine ≡ e)
  unfolding arrived load_failed
  loaded_refusal (Ok Progress.Done) c r = absurd (true≢false (sym r))
  loaded_refusal (Ok Progress.More) c r = absurd (true≢false (sym r))
  loaded_refusal (Ok (Progress.Failed number)) c r = absurd (true≢false (sym r ∙ either_status (ltb e.follower.failures 7) _ _ refl refl))
  loaded_refusal (Err number) c r = (refl, refl)

  header_failed_lem : (number : ℕ) → is_refused (header_failed e number).answer ≡ false
  unfolding header_failed
  header_failed_lem number = either_status (eqb number 1 && ltb e.follower.failures 7) _ _ refl refl

  header_parsed_lem : (x : Result Header Refusal) → is_refused (header_parsed x e).answer ≡ false
  header_parsed_lem (Ok h) = refl
  header_parsed_lem (Err refusal) = header_failed_lem (number_of refusal)

  header_taken : (failure : ℕ) (bs : List ℕ) → is_refused (header_came e failure bs).answer ≡ false
  unfolding header_came
  header_taken failure bs =
      either_status (eqb failure 0) _ _ (header_parsed_lem (parse (sector_of bs))) (header_failed_lem failure)

-- ---- a delivery

module _ (e : Engine) (arena : List ℕ) (failure : ℕ) (bs : List ℕ) where
  abbrev Kept : After → Type 0
  Kept a = is_refused a.answer ≡ true → (a.engine ≡ e) × (a.arena ≡ arena)

  either_kept : (t : Bool) (x y : After) → Kept x → Kept y → Kept (cond t x y)
  either_kept true x y p q = p
  either_kept false x y p q = q

  need_kept : (x : Option TileKey) → Kept (need_came_by x e arena failure bs)
  need_kept None r = (refl, refl)
  need_kept (Some key) r =
      subst Kept (sym (part_cases e arena key failure bs))
      (either_kept (Loads.takes n h key failure (length bs)) _ _ (either_kept (in_grid h key) _ _ part (λ z. (refl, refl))) (λ z. (refl, refl))) r
    where
      h : Header
      h = e.shared.header

      n : Next
      n = next_step e.shared.cache key

      x : Loads.After
      x = Loads.stepped e.shared.cache n arena h key failure bs

      part : Kept (over (loaded e (Loads.told x)) x.arena)
      part z =
          let l : (is_refusal x.answer ≡ true) × ((loaded_by x.answer e x.cache).engine ≡ e) = loaded_refusal e x.answer x.cache z in
          (l.1, refused_unwritten e.shared.cache arena h key failure bs n l.0)

  open_kept : (x : Pending) → Kept (delivered_by x e arena failure bs)
  open_kept Pending.Nothing r = (refl, refl)
  open_kept Pending.Header r =
      either_kept (fits_header failure (length bs)) _ _ (λ z. absurd (true≢false (sym z ∙ header_taken e failure bs))) (λ z. (refl, refl)) r
  open_kept (Pending.Entry key) r = need_kept e.follower.due.need r
  open_kept Pending.Chunk r = need_kept e.follower.due.need r

  deliver_refused : Kept (Calls.deliver e arena failure bs)
  unfolding Calls.deliver delivered
  deliver_refused = either_kept (engine_ok e (length arena)) _ _ (open_kept e.shared.cache.pending) (λ r. (refl, refl))

-- ---- the delivery of the lent-pack form

-- the whole of a read of `len` bytes, or failure 2
data Answers (len failure : ℕ) (bs : List ℕ) : Type 0 where
  whole : failure ≡ 0 → length bs ≡ len → Answers len failure bs
  short : failure ≡ 2 → Answers len failure bs

header_fits : (failure : ℕ) (bs : List ℕ) → Answers 512 failure bs → fits_header failure (length bs) ≡ true
header_fits failure bs (whole z s) = rw (z, s)
header_fits failure bs (short z) = rw z

read_fits : (len failure : ℕ) (bs : List ℕ) → 0 < len → Answers len failure bs → Loads.fits len failure (length bs) ≡ true
read_fits len failure bs some (whole z s) = rw (z, s, eq-eqb len len refl)
read_fits len failure bs some (short z) = rw (z, lt-ltb 0 len some)

-- a load that is under way has bytes left
chunk_some : (l : Loading) → l.done < l.len → 0 < Loads.chunk_len l
unfolding Loads.chunk_len
chunk_some l left = by (ltb (l.len - l.done) 2048)
  where
    by : (t : Bool) → 0 < cond t (l.len - l.done) 2048
    by true = omega arith
    by false = omega arith

load_left : (c : Cache) (l : Loading) → state_ok c ≡ true → c.loading ≡ Some l → l.done < l.len
unfolding tile_loads
load_left c l ok q =
    let s = slot_at c.pages.slots l.slot in
    let load : loads_ok c.pages (Some l) ≡ true = rw q at (ok_parts c ok).load in
    ltb-true l.done l.len
    (and_right (not s.ready) _ (and_right (eqb s.len l.len) _ (and_right (holds s.key l.key) _ (and_right (is_run (kind_of s)) _ load))))

entry_next : (n : Next) → is_entry n ≡ true → n ≡ Next.Entry
entry_next Next.Entry q = refl
entry_next (Next.Chunk l) q = absurd (true≢false (sym q))
entry_next (Next.Ready i) q = absurd (true≢false (sym q))
entry_next Next.Missing q = absurd (true≢false (sym q))
entry_next Next.NoPages q = absurd (true≢false (sym q))

chunk_next : (c : Cache) (key : TileKey) (l : Loading) → c.loading ≡ Some l → is_chunk (next_step c key) ≡ true → next_step c key ≡ Next.Chunk l
chunk_next c key l q t = by (next_step c key) refl t
  where
    by : (n : Next) → next_step c key ≡ n → is_chunk n ≡ true → n ≡ Next.Chunk l
    by (Next.Chunk m) r t = let s : c.loading ≡ Some m = next_chunk key m c r in let same : m ≡ l = cc in ap Next.Chunk same
    by Next.Entry r t = absurd (true≢false (sym t))
    by (Next.Ready i) r t = absurd (true≢false (sym t))
    by Next.Missing r t = absurd (true≢false (sym t))
    by Next.NoPages r t = absurd (true≢false (sym t))

module _ (e : Engine) (arena : List ℕ) (ok : engine_ok e (length arena) ≡ true) (offset len failure : ℕ) (bs : List ℕ) (answer : Answers len failure bs) where
  abbrev c₁ : Cache
  c₁ = e.shared.cache

  abbrev h₁ : Header
  h₁ = e.shared.header

  need_held : need_ok e.shared e.follower.due.need ≡ true
  need_held = and_right (leb e.follower.due.reloads (reload_limit c₁.pages.count)) _ (apart e (length arena) ok).holds.due

  fetch_open : pending_ok e.shared e.follower.due.need ≡ true
  fetch_open = (apart e (length arena) ok).pending

  -- the read of the tile needed
  part_taken : (key : TileKey) (n : Next) → is_ready e.shared.phase ≡ true → e.follower.due.need ≡ Some key → next_step c₁ key ≡ n
      → is_read n ≡ true → Loads.read_len n ≡ len → 0 < len → is_refused (part_came e arena key failure bs).answer ≡ false
  unfolding part_came
  part_taken key n ready need q reads size some =
      let held : need_ok e.shared (Some key) ≡ true = rw need at need_held in
      let grid : in_grid h₁ key ≡ true = rw (ready_is e.shared.phase ready) at held in
      rw (q, grid, size, read_fits len failure bs some answer)
      (loaded_taken e (Loads.stepped c₁ n arena h₁ key failure bs).answer _ (read_taken c₁ arena h₁ key failure bs n reads))

  entry_taken : (key : TileKey) → c₁.pending ≡ Pending.Entry key → 8 ≡ len → (x : Option TileKey) → e.follower.due.need ≡ x
      → is_refused (need_came_by x e arena failure bs).answer ≡ false
  entry_taken key p size None need =
      absurd (true≢false (sym (and_right (is_ready e.shared.phase) false (rw (p, need) at fetch_open))))
  entry_taken key p size (Some k) need =
      let fits : (is_ready e.shared.phase && same_key k key) ≡ true = rw (p, need) at fetch_open in
      let same : k ≡ key = same_key_lem k key (and_right (is_ready e.shared.phase) _ fits) in
      let entry : is_entry (next_step c₁ k) ≡ true
      = rw same (open_fits c₁ k (state_is e (length arena) ok) (Pending.Entry key) p) in
      part_taken k Next.Entry (and_left (is_ready e.shared.phase) _ fits) need (entry_next (next_step c₁ k) entry) refl size (omega (arith, size))

  chunk_taken : (l : Loading) → c₁.pending ≡ Pending.Chunk → c₁.loading ≡ Some l → Loads.chunk_len l ≡ len → (x : Option TileKey)
      → e.follower.due.need ≡ x → is_refused (need_came_by x e arena failure bs).answer ≡ false
  chunk_taken l p q size None need =
      absurd (true≢false (sym (and_right (is_ready e.shared.phase) false (rw (p, need, q) at fetch_open))))
  chunk_taken l p q size (Some k) need =
      let fits : (is_ready e.shared.phase && same_key k l.key) ≡ true = rw (p, need, q) at fetch_open in
      let same : k ≡ l.key = same_key_lem k l.key (and_right (is_ready e.shared.phase) _ fits) in
      let wants : is_chunk (next_step c₁ l.key) ≡ true
      = sym (ap (λ (y : Option Loading). wants_chunk_of y c₁) q) ∙ open_fits c₁ k (state_is e (length arena) ok) Pending.Chunk p in
      let next : next_step c₁ k ≡ Next.Chunk l = rw same (chunk_next c₁ l.key l q wants) in
      let some : 0 < Loads.chunk_len l = chunk_some l (load_left c₁ l (state_is e (length arena) ok) q) in
      part_taken k (Next.Chunk l) (and_left (is_ready e.shared.phase) _ fits) need next refl size (omega (arith, size, some))

  chunk_open : (x : Option Loading) → c₁.pending ≡ Pending.Chunk → c₁.loading ≡ x → chunk_request x ≡ Ok (Status.Fetch offset len)
      → is_refused (need_came_by e.follower.due.need e arena failure bs).answer ≡ false
  chunk_open None p q asks = let z : ◌≡◌ {A = ℕ} 0 1 = cc in absurd (omega arith)
  chunk_open (Some l) p q asks = chunk_taken l p q (cc) e.follower.due.need refl

  open_taken : (x : Pending) → c₁.pending ≡ x → request_of e.shared x ≡ Ok (Status.Fetch offset len) → is_refused (delivered_by x e arena failure bs).answer ≡ false
  open_taken Pending.Nothing p asks = let z : ◌≡◌ {A = ℕ} 0 1 = cc in absurd (omega arith)
  open_taken Pending.Header p asks =
      let size : len ≡ 512 = cc in
      rw (header_fits failure bs (subst (λ (k : ℕ). Answers k failure bs) size answer)) (header_taken e failure bs)
  open_taken (Pending.Entry key) p asks = entry_taken key p (cc) e.follower.due.need refl
  open_taken Pending.Chunk p asks = chunk_open c₁.loading p refl asks

  -- a delivery of what the open fetch asks for, or that it lies past the pack
  answer_taken : request_of e.shared c₁.pending ≡ Ok (Status.Fetch offset len) → is_refused (Calls.deliver e arena failure bs).answer ≡ false
  unfolding Calls.deliver delivered
  answer_taken asks = rw ok (open_taken c₁.pending refl asks)

-- the fetch that a step answers is open after it
pub step_open : (e : Engine) (arena : List ℕ) {offset len : ℕ} → (Calls.step e arena).answer ≡ Ok (Status.Fetch offset len)
    → let n = (Calls.step e arena).engine in request_of n.shared n.shared.cache.pending ≡ Ok (Status.Fetch offset len)
unfolding Calls.step stepped
step_open e arena {offset} {len} = by (engine_ok e (length arena)) e.shared.cache.pending refl
  where
    open_of : Engine → Result Status Refusal
    open_of n = request_of n.shared n.shared.cache.pending

    again : is_open e.shared.cache.pending ≡ true → (stepped e arena).answer ≡ Ok (Status.Fetch offset len)
        → open_of (stepped e arena).engine ≡ Ok (Status.Fetch offset len)
    again o a = let r = open_repeats e arena o in ap (λ (s : Stepped). open_of s.engine) r ∙ (sym (ap (λ (s : Stepped). s.answer) r) ∙ a)

    by : (t : Bool) (p : Pending) → e.shared.cache.pending ≡ p
        → (cond t (stepped_by e.shared.cache.pending e arena) (refused e Refusal.BadState)).answer ≡ Ok (Status.Fetch offset len)
        → open_of (cond t (stepped_by e.shared.cache.pending e arena) (refused e Refusal.BadState)).engine ≡ Ok (Status.Fetch offset len)
    by true Pending.Nothing q a =
        let o : Opening e (stepped e arena) = opening_is_pending e arena q a in ap open_of o.engine ∙ sym o.asks ∙ a
    by true Pending.Header q a = again (rw q) a
    by true (Pending.Entry key) q a = again (rw q) a
    by true Pending.Chunk q a = again (rw q) a
    by false p q a = let z : ◌≡◌ {A = ℕ} 0 1 = cc in absurd (omega arith)

-- a step that fetches was not refused
step_runs : (e : Engine) (arena : List ℕ) {offset len : ℕ} → (Calls.step e arena).answer ≡ Ok (Status.Fetch offset len) → engine_ok e (length arena) ≡ true
unfolding Calls.step
step_runs e arena {offset} {len} a = by (engine_ok e (length arena)) refl a
  where
    by : (t : Bool) → engine_ok e (length arena) ≡ t → (cond t (stepped e arena) (refused e Refusal.BadState)).answer ≡ Ok (Status.Fetch offset len)
        → engine_ok e (length arena) ≡ true
    by true ok a = ok
    by false bad a = let z : ◌≡◌ {A = ℕ} 0 1 = cc in absurd (omega arith)

module _ (e : Engine) (arena pack : List ℕ) where
  abbrev n₁ : Engine
  n₁ = (Calls.step e arena).engine

  range_taken : (offset len : ℕ) (x : Result ℕ Refusal) → read pack offset len ≡ x → (Calls.step e arena).answer ≡ Ok (Status.Fetch offset len)
      → is_refused (Calls.answered_by x n₁ arena len pack).answer ≡ false
  range_taken offset len (Ok at) r a =
      let there : (at ≡ offset) × (offset + len ≤ length pack) = read_at pack offset len r in
      let size : length (pack_bytes pack at len) ≡ len = simp (length-take, length-drop) (omega arith) in
      answer_taken n₁ arena (step_ok e arena (length arena) (step_runs e arena a)) offset len 0 (pack_bytes pack at len) (whole refl size) (step_open e arena a)
  range_taken offset len (Err number) r a =
      answer_taken n₁ arena (step_ok e arena (length arena) (step_runs e arena a)) offset len 2 [] (short refl) (step_open e arena a)

  from_refused : (a : Result Status Refusal) → (Calls.step e arena).answer ≡ a → Kept e arena 0 [] (Calls.step_from_by a (Calls.step e arena) arena pack)
  unfolding Calls.answered_from
  from_refused (Ok (Status.Fetch offset len)) q r = absurd (true≢false (sym r ∙ range_taken offset len (read pack offset len) refl q))
  from_refused (Ok Status.Idle) q r = (step_refused e arena r, refl)
  from_refused (Ok Status.Working) q r = (step_refused e arena r, refl)
  from_refused (Ok Status.NoPack) q r = (step_refused e arena r, refl)
  from_refused (Ok Status.OffMap) q r = (step_refused e arena r, refl)
  from_refused (Err number) q r = (step_refused e arena r, refl)

-- ---- every call

either_changed : (e : Engine) (t : Bool) (x y : Changed) → (is_taken x.answer ≡ false → x.engine ≡ e) → (is_taken y.answer ≡ false → y.engine ≡ e)
    → is_taken (cond t x y).answer ≡ false → (cond t x y).engine ≡ e
either_changed e true x y p q = p
either_changed e false x y p q = q

pub refused_same : (e : Engine) (arena : List ℕ) → RefusedSame e arena
unfolding Calls.fix Calls.lost Calls.reset Calls.step_from forgotten
refused_same e arena = record {
  fix = λ f. either_changed e (engine_ok e (length arena)) _ _
      (either_changed e (is_point f.lat f.lon) _ _ (λ r. absurd (true≢false r)) (λ r. refl)) (λ r. refl);
  lost = either_changed e (engine_ok e (length arena)) _ _ (λ r. absurd (true≢false r)) (λ r. refl);
  reset = either_changed e (engine_ok e (length arena)) _ _ (λ r. absurd (true≢false r)) (λ r. refl);
  step = step_refused e arena;
  deliver = deliver_refused e arena;
  step_from = λ pack. from_refused e arena pack (Calls.step e arena).answer refl;
}
