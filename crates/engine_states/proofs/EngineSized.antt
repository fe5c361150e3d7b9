-- No public call changes how many slots the cache has or how long the arena is: a step leaves the slots as they were (`step_slots`), a delivery
-- keeps their 96 and the arena's length (`deliver_sized`, `deliver_arena`), and so do a fix, a loss of fixes and another pack. So what
-- `deliver_kept` asks for holds of every engine that began with it, and a step with its delivery makes no state that number 12 names
-- (`step_from_kept`). The idea: lookups change clock and ages alone, and only a chunk is written.
use Prim.Native.Nat.{ℕ, ◌+◌, ◌*◌}
use mathlib.Core.Path.{◌≡◌, refl, sym, ap, subst, ◌∙◌}
use mathlib.Core.Bool.{Bool, true, false, ◌&&◌, cond}
use mathlib.Core.List.{List, []}
use native.Mathlib.Omega.{arith}
use lib.Dec.{eqb, ltb, leb}
use lib.Ieee.{Float}
use lib.IntN.{pos}
use lib.ListN.{length, replicate, length-replicate}
use lib.Seq.{paste, length-paste}
use borrow.Author.Tests.{leb-true}
use Rattle.std.specs.Prelude.{Option, Some, None, Result, Ok, Err}
use Rattle.refusal.specs.Refusal.{number_of}
use Rattle.refusal.specs.declared.Refusal.{Refusal}
use Rattle.pack.specs.Grid.{is_point, in_grid, key_of, read}
use Rattle.pack.specs.Sector.{parse}
use Rattle.pack.specs.declared.Header.{Header}
use Rattle.pack.specs.declared.TileKey.{TileKey}
use Rattle.cache.specs.declared.Slot.{Slot}
use Rattle.cache.specs.Direct.{look, Aged}
use Rattle.cache.specs.Lookups.{passes, len_at, next_step}
use Rattle.cache.specs.State as Caches
use Rattle.cache.specs.State.{state_ok, empty_slot, cleared}
use Rattle.cache.specs.declared.Cache.{Cache}
use Rattle.cache.specs.declared.Loading.{Loading}
use Rattle.cache.specs.declared.Pending.{Pending}
use Rattle.cache.specs.declared.next.Next.{Next}
use Rattle.cache.specs.Loads as Loads
use Rattle.cache.specs.Loads.{fetched, takes, forgot, chunk_len, put, chunk_step, pack_bytes}
use Rattle.cache.specs.declared.Progress.{Progress}
use Rattle.matcher.specs.declared.Matched.{Matched}
use Rattle.matcher.specs.Gather.{Run, run_over, updated}
use Rattle.matcher.specs.declared.Outcome as MatchOutcome
use Rattle.matcher.specs.declared.Outcome.TheVariants as Found
use Rattle.matcher.specs.declared.Updated.{Updated}
use Rattle.predict.specs.Predict as Predict
use Rattle.predict.specs.Predict.{predict_over, predicted_in}
use Rattle.predict.specs.declared.Outcome as RoadOutcome
use Rattle.predict.specs.declared.Outcome.TheVariants as Road
use Rattle.engine.specs.Fixes.{place_of}
use Rattle.engine.specs.declared.Fix.{Fix}
use Rattle.engine.specs.declared.Follower.{Follower}
use Rattle.engine.specs.Calls as Calls
use Rattle.engine.proofs.NeedLaws.{need_by, need_is, part_cases}
use Rattle.engine.proofs.TestedLaws.{need_in}
use Rattle.engine.specs.Deliver.{After, with_pending, sector_of, header_failed, header_parsed, header_came, arrived, load_failed, loaded_by, fits_header, need_came_by, delivered_by, delivered}
use Rattle.engine.specs.State.{refused, forgotten, engine_ok}
use Rattle.engine.specs.Steps.{ready_by, started_by, started, stepped_by, stepped}
use Rattle.engine.specs.Work.{counted, match_ended_by, match_step, road_ended_by, road_step, road_due_by, at_fix_by, at_fix, worked_by, worked}
use Rattle.engine.specs.declared.Changed.{Changed}
use Rattle.engine.specs.declared.Engine.{Engine}
use Rattle.engine.specs.declared.Phase.{Phase}
use Rattle.engine.specs.declared.Status.{Status}
use Rattle.engine.specs.declared.Stepped.{Stepped}
use Rattle.engine_states.proofs.EngineKept.{updated_aged, predicted_aged, touched_aged, state_is, step_kept, deliver_kept}

abbrev slots_of : Engine → List Slot
slots_of e = e.shared.cache.pages.slots

-- the cache's array, as long as it is declared
abbrev pub Sized : Engine → Type 0
Sized e = length (slots_of e) ≡ 96

pub new_sized : (arena : List ℕ) (horizon : Float) → Sized (Calls.new arena horizon)
unfolding Calls.new Caches.fresh
new_sized arena horizon = length-replicate 96 empty_slot

-- ---- a fix, the loss of fixes, another pack

either_changed : (t : Bool) (a b : Changed) → Sized a.engine → Sized b.engine → Sized (cond t a b).engine
either_changed true a b p q = p
either_changed false a b p q = q

pub fix_sized : (e : Engine) (arena : List ℕ) (f : Fix) → Sized e → Sized (Calls.fix e arena f).engine
unfolding Calls.fix
fix_sized e arena f size = either_changed (engine_ok e (length arena)) _ _ (either_changed (is_point f.lat f.lon) _ _ size size) size

pub lost_sized : (e : Engine) (arena : List ℕ) → Sized e → Sized (Calls.lost e arena).engine
unfolding Calls.lost
lost_sized e arena size = either_changed (engine_ok e (length arena)) _ _ size size

pub reset_sized : (e : Engine) (arena : List ℕ) → Sized e → Sized (Calls.reset e arena).engine
unfolding Calls.reset forgotten cleared
reset_sized e arena size = either_changed (engine_ok e (length arena)) _ _ (length-replicate 96 empty_slot) size

-- ---- a step

module _ (e : Engine) (arena : List ℕ) where
  abbrev Kept : Stepped → Type 0
  Kept s = slots_of s.engine ≡ slots_of e

  either_kept : (t : Bool) (a b : Stepped) → Kept a → Kept b → Kept (cond t a b)
  either_kept true a b p q = p
  either_kept false a b p q = q

  match_by : (x : Result MatchOutcome.Outcome Refusal) (f : Follower) (fix : Fix) (u : Updated) → Aged e.shared.cache u.cache → Kept (match_ended_by x e f fix u)
  match_by (Ok (Found.Found m)) f fix u a = a.slots
  match_by (Ok Found.Nothing) f fix u a = a.slots
  match_by (Ok (Found.Need key)) f fix u a = a.slots
  match_by (Err number) f fix u a = refl

  match_slots : (f : Follower) (fix : Fix) → Kept (match_step e arena f fix)
  unfolding match_step updated
  match_slots f fix =
      let c : Cache = e.shared.cache in
      let h : Header = e.shared.header in
      let r : Run = run_over (look c arena h.tile) f.matcher h (place_of fix) f.sight.heading in
      let u : Updated = updated f.matcher c arena h (place_of fix) f.sight.heading in
      match_by u.answer f fix u (updated_aged c arena h.tile r.found r.end)

  road_by : (x : Result RoadOutcome.Outcome Refusal) (f : Follower) (fix : Fix) (found : Matched) (p : Predict.After) → Aged e.shared.cache p.predicted.cache
      → Kept (road_ended_by x e f fix found p)
  road_by (Ok (Road.Road r)) f fix found p a = a.slots
  road_by (Ok (Road.Need key)) f fix found p a = a.slots
  road_by (Ok Road.Rematch) f fix found p a = a.slots
  road_by (Err refusal) f fix found p a = either_kept (eqb (number_of refusal) 10) _ _ a.slots refl

  road_slots : (x : Option Matched) (f : Follower) (fix : Fix) → Kept (road_due_by x e arena f fix)
  unfolding road_step predicted_in
  road_slots (Some found) f fix =
      let c : Cache = e.shared.cache in
      let h : Header = e.shared.header in
      let p : Predict.After = predicted_in c arena h found f.horizon_m (replicate 501 (pos 0)) (replicate 11 (pos 0)) in
      road_by p.predicted.answer f fix found p
      (predicted_aged c arena h.tile
      (predict_over (look c arena h.tile) c.pages.count h found f.horizon_m (replicate 501 (pos 0)) (replicate 11 (pos 0))).carried
      p.predicted.answer)
  road_slots None f fix = refl

  fix_slots : (x : Option TileKey) (f : Follower) (fix : Fix) → Kept (at_fix_by x e arena f fix)
  fix_slots (Some key) f fix =
      either_kept f.due.matching _ _ (match_slots f fix) (either_kept f.due.road _ _ (road_slots f.matcher.current f fix) refl)
  fix_slots None f fix = refl

  work_slots : (x : Option Fix) (f : Follower) → Kept (worked_by x e arena f)
  unfolding at_fix
  work_slots None f = refl
  work_slots (Some fix) f = fix_slots (key_of e.shared.header fix.lat fix.lon) f fix

  need_slots : (x : Next) (key : TileKey) → Kept (need_by (fetched e.shared.cache x arena e.shared.header key) x e key)
  unfolding arrived forgot
  need_slots (Next.Ready i) key = by (passes arena i (len_at e.shared.cache i) key e.shared.header.tile)
    where
      by : (t : Bool) → Kept (need_by (cond t (Ok None) (Err Refusal.BadState)) (Next.Ready i) e key)
      by true = (touched_aged e.shared.cache i).slots
      by false = refl
  need_slots Next.Missing key = refl
  need_slots Next.NoPages key = refl
  need_slots Next.Entry key = refl
  need_slots (Next.Chunk l) key = refl

  -- in a state that 12 does not name
  module _ (ok : engine_ok e (length arena) ≡ true) where
    ready_slots : (x : Option TileKey) → e.shared.phase ≡ Phase.Ready → e.follower.due.need ≡ x → Kept (ready_by x e arena)
    unfolding worked
    ready_slots (Some key) ready need =
        subst Kept (sym (need_is e arena key (need_in e (length arena) ok key ready need) (state_is e (length arena) ok)))
        (need_slots (next_step e.shared.cache key) key)
    ready_slots None ready need = work_slots e.follower.sight.fix (counted e.follower)

    started_slots : (x : Phase) → e.shared.phase ≡ x → Kept (started_by x e arena)
    started_slots Phase.Failed q = refl
    started_slots Phase.Unread q = refl
    started_slots Phase.Ready q = ready_slots e.follower.due.need q refl

    stepped_slots : (x : Pending) → Kept (stepped_by x e arena)
    unfolding started
    stepped_slots Pending.Nothing = started_slots e.shared.phase refl
    stepped_slots Pending.Header = refl
    stepped_slots (Pending.Entry key) = refl
    stepped_slots Pending.Chunk = refl

  pub step_slots : slots_of (Calls.step e arena).engine ≡ slots_of e
  unfolding Calls.step stepped
  step_slots = by (engine_ok e (length arena)) refl
    where
      by : (t : Bool) → engine_ok e (length arena) ≡ t → Kept (cond t (stepped_by e.shared.cache.pending e arena) (refused e Refusal.BadState))
      by true ok = stepped_slots ok e.shared.cache.pending
      by false ok = refl

pub step_sized : (e : Engine) (arena : List ℕ) → Sized e → Sized (Calls.step e arena).engine
step_sized e arena size = ap length (step_slots e arena) ∙ size

-- ---- a delivery keeps the arena's length

put-length : (arena : List ℕ) (slot done : ℕ) (bs : List ℕ) → length (put arena slot done bs) ≡ length arena
unfolding put
put-length arena slot done bs = by (leb (slot * 8192 + done + length bs) (length arena)) refl
  where
    by : (t : Bool) → leb (slot * 8192 + done + length bs) (length arena) ≡ t
        → length (cond t (paste arena (slot * 8192 + done) bs (length bs)) arena) ≡ length arena
    by true e =
        length-paste arena (slot * 8192 + done) bs (length bs) (leb-true (slot * 8192 + done + length bs) (length arena) e) (omega arith)
    by false e = refl

either_length : (t : Bool) (a b : Loads.After) (n : ℕ) → length a.arena ≡ n → length b.arena ≡ n → length (cond t a b).arena ≡ n
either_length true a b n p q = p
either_length false a b n p q = q

step_arena : (c : Cache) (x : Next) (arena : List ℕ) (h : Header) (key : TileKey) (failure : ℕ) (bs : List ℕ)
    → length (Loads.stepped c x arena h key failure bs).arena ≡ length arena
unfolding chunk_step
step_arena c (Next.Ready i) arena h key failure bs = refl
step_arena c Next.Missing arena h key failure bs = refl
step_arena c Next.NoPages arena h key failure bs = refl
step_arena c Next.Entry arena h key failure bs = refl
step_arena c (Next.Chunk l) arena h key failure bs =
    let wrote = put-length arena l.slot l.done bs in
    either_length (eqb failure 0) _ _ (length arena) (either_length (ltb (l.done + chunk_len l) l.len) _ _ (length arena) wrote wrote) refl

either_arena : (t : Bool) (a b : After) (n : ℕ) → length a.arena ≡ n → length b.arena ≡ n → length (cond t a b).arena ≡ n
either_arena true a b n p q = p
either_arena false a b n p q = q

module _ (e : Engine) (arena : List ℕ) (failure : ℕ) (bs : List ℕ) where
  need_arena : (x : Option TileKey) → length (need_came_by x e arena failure bs).arena ≡ length arena
  need_arena None = refl
  need_arena (Some key) =
      let n = next_step e.shared.cache key in
      subst (λ (a : After). length a.arena ≡ length arena) (sym (part_cases e arena key failure bs))
      (either_arena (takes n e.shared.header key failure (length bs)) _ _ (length arena)
      (either_arena (in_grid e.shared.header key) _ _ (length arena) (step_arena e.shared.cache n arena e.shared.header key failure bs) refl) refl)

  open_arena : (x : Pending) → length (delivered_by x e arena failure bs).arena ≡ length arena
  open_arena Pending.Nothing = refl
  open_arena Pending.Header = either_arena (fits_header failure (length bs)) _ _ (length arena) refl refl
  open_arena (Pending.Entry key) = need_arena e.follower.due.need
  open_arena Pending.Chunk = need_arena e.follower.due.need

  pub deliver_arena : length (Calls.deliver e arena failure bs).arena ≡ length arena
  unfolding Calls.deliver delivered
  deliver_arena = either_arena (engine_ok e (length arena)) _ _ (length arena) (open_arena e.shared.cache.pending) refl

-- ---- and the slots' count

either_sized : (t : Bool) (a b : Stepped) → Sized a.engine → Sized b.engine → Sized (cond t a b).engine
either_sized true a b p q = p
either_sized false a b p q = q

either_told : (t : Bool) (a b : After) → (t ≡ true → Sized a.engine) → Sized b.engine → Sized (cond t a b).engine
either_told true a b p q = p refl
either_told false a b p q = q

module _ (e : Engine) (size : Sized e) where
  failed_sized : (failure : ℕ) → Sized (header_failed e failure).engine
  unfolding header_failed
  failed_sized failure = either_sized (eqb failure 1 && ltb e.follower.failures 7) _ _ size size

  parsed_sized : (x : Result Header Refusal) → Sized (header_parsed x e).engine
  parsed_sized (Ok h) = size
  parsed_sized (Err refusal) = failed_sized (number_of refusal)

  header_sized : (failure : ℕ) (bs : List ℕ) → Sized (header_came e failure bs).engine
  unfolding header_came
  header_sized failure bs =
      either_sized (eqb failure 0) _ _ (parsed_sized (parse (sector_of bs))) (failed_sized failure)

  loaded_sized : (x : Result Progress Refusal) (d : Cache) → length d.pages.slots ≡ 96 → Sized (loaded_by x e d).engine
  unfolding arrived load_failed
  loaded_sized (Ok Progress.Done) d long = long
  loaded_sized (Ok Progress.More) d long = long
  loaded_sized (Ok (Progress.Failed number)) d long = either_sized (ltb e.follower.failures 7) _ _ long long
  loaded_sized (Err number) d long = size

module _ (sizes : (c : Cache) (arena : List ℕ) (h : Header) (key : TileKey) (failure : ℕ) (bs : List ℕ) → length c.pages.slots ≡ 96
    → state_ok c ≡ true → length (Loads.stepped c (next_step c key) arena h key failure bs).cache.pages.slots ≡ 96)
    (e : Engine) (arena : List ℕ) (failure : ℕ) (bs : List ℕ) (size : Sized e) where
  need_sized : (x : Option TileKey) → state_ok e.shared.cache ≡ true → Sized (need_came_by x e arena failure bs).engine
  need_sized None ok = size
  need_sized (Some key) ok =
      let c : Cache = e.shared.cache in
      let x : Loads.After = Loads.stepped c (next_step c key) arena e.shared.header key failure bs in
      subst (λ (a : After). Sized a.engine) (sym (part_cases e arena key failure bs))
      (either_told (takes (next_step c key) e.shared.header key failure (length bs)) _ _
      (λ t. either_told (in_grid e.shared.header key) _ _
      (λ g. loaded_sized e size x.answer x.cache (sizes c arena e.shared.header key failure bs size ok)) size) size)

  open_sized : (x : Pending) → state_ok e.shared.cache ≡ true → Sized (delivered_by x e arena failure bs).engine
  open_sized Pending.Nothing ok = size
  open_sized Pending.Header ok = either_told (fits_header failure (length bs)) _ _ (λ t. header_sized e size failure bs) size
  open_sized (Pending.Entry key) ok = need_sized e.follower.due.need ok
  open_sized Pending.Chunk ok = need_sized e.follower.due.need ok

  pub deliver_sized : Sized (Calls.deliver e arena failure bs).engine
  unfolding Calls.deliver delivered
  deliver_sized =
      either_told (engine_ok e (length arena)) _ _ (λ t. open_sized e.shared.cache.pending (state_is e (length arena) t)) size

-- ---- a step with its delivery

module _ (aged : (c d : Cache) → Aged c d → state_ok c ≡ true → state_ok d ≡ true)
    (opens_nothing : (c : Cache) → state_ok c ≡ true → state_ok (with_pending c Pending.Nothing) ≡ true)
    (opens_header : (c : Cache) → state_ok c ≡ true → state_ok (with_pending c Pending.Header) ≡ true)
    (opens_entry : (c : Cache) (key : TileKey) → state_ok c ≡ true → next_step c key ≡ Next.Entry → state_ok (with_pending c (Pending.Entry key)) ≡ true)
    (opens_chunk : (c : Cache) (key : TileKey) (l : Loading) → state_ok c ≡ true → next_step c key ≡ Next.Chunk l
    → state_ok (with_pending c Pending.Chunk) ≡ true)
    (forgets : (c : Cache) (key : TileKey) → state_ok c ≡ true → state_ok (forgot c key) ≡ true)
    (steps : (c : Cache) (arena : List ℕ) (h : Header) (key : TileKey) (failure : ℕ) (bs : List ℕ) → length c.pages.slots ≡ 96 → state_ok c ≡ true
    → takes (next_step c key) h key failure (length bs) ≡ true → in_grid h key ≡ true
    → state_ok (Loads.stepped c (next_step c key) arena h key failure bs).cache ≡ true)
    (counts : (c : Cache) (arena : List ℕ) (h : Header) (key : TileKey) (failure : ℕ) (bs : List ℕ)
    → (Loads.stepped c (next_step c key) arena h key failure bs).cache.pages.count ≡ c.pages.count)
    (n : ℕ)
  where
    answered_by_lem : (x : Result ℕ Refusal) (e : Engine) (arena : List ℕ) (len : ℕ) (pack : List ℕ) → Sized e → engine_ok e n ≡ true
        → engine_ok (Calls.answered_by x e arena len pack).engine n ≡ true
    answered_by_lem (Ok at) e arena len pack size ok = deliver_kept opens_nothing steps counts e arena 0 (pack_bytes pack at len) n size ok
    answered_by_lem (Err number) e arena len pack size ok = deliver_kept opens_nothing steps counts e arena 2 [] n size ok

    pub answered_kept : (e : Engine) (arena : List ℕ) (offset len : ℕ) (pack : List ℕ) → Sized e → engine_ok e n ≡ true
        → engine_ok (Calls.answered_from e arena offset len pack).engine n ≡ true
    unfolding Calls.answered_from
    answered_kept e arena offset len pack size ok = answered_by_lem (read pack offset len) e arena len pack size ok

    from_by : (x : Result Status Refusal) (s : Stepped) (arena pack : List ℕ) → Sized s.engine → engine_ok s.engine n ≡ true
        → engine_ok (Calls.step_from_by x s arena pack).engine n ≡ true
    from_by (Ok (Status.Fetch offset len)) s arena pack size ok = answered_kept s.engine arena offset len pack size ok
    from_by (Ok Status.Idle) s arena pack size ok = ok
    from_by (Ok Status.Working) s arena pack size ok = ok
    from_by (Ok Status.NoPack) s arena pack size ok = ok
    from_by (Ok Status.OffMap) s arena pack size ok = ok
    from_by (Err number) s arena pack size ok = ok

    pub step_from_kept : (e : Engine) (arena pack : List ℕ) → Sized e → engine_ok e n ≡ true → engine_ok (Calls.step_from e arena pack).engine n ≡ true
    unfolding Calls.step_from
    step_from_kept e arena pack size ok =
        let s : Stepped = Calls.step e arena in
        from_by s.answer s arena pack (step_sized e arena size) (step_kept aged opens_header opens_entry opens_chunk forgets e arena n ok)
