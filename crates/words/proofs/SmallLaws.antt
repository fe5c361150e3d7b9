-- What number 12 leaves alone has counts that fit a word (`small`).
use Rattle.std.specs.Prelude.{Option, Some, None}
use Rattle.cache.specs.declared.Loading.{Loading}
use Rattle.std.proofs.Common.{◌≡◌, ℕ, ◌<◌, ◌≤◌, Bool, true, false, ◌&&◌, ltb, leb, List, [], ◌∷◌, length, get_or, sym, refl, ap, ◌∙◌, true≢false, arith, ltb-false, ltb-true, leb-true}
use lib.ListN.{get_or-eq_default}
use Rattle.pack.specs.Sector.{all_of}
use Rattle.pack.proofs.Laws.{clause}
use Rattle.cache.specs.Runs.{empty_slot, is_run, kind_of}
use Rattle.cache.specs.State.{state_ok, tile_loads, loads_ok, runs_ok, ring_ok, load_ok, pending_ok}
use Rattle.cache.specs.declared.Cache.{Cache}
use Rattle.cache.specs.declared.Pages.{Pages}
use Rattle.cache.specs.declared.Slot.{Slot}
use Rattle.engine.specs.State as Engines
use Rattle.engine.specs.State.{engine_ok, shared_ok, places_ok, fix_ok, due_ok, sight_ok, matcher_ok, matched_ok, ahead_ok, failures_ok}
use Rattle.engine.specs.declared.Engine.{Engine}
use Rattle.engine.specs.declared.Places.{Places}
use Rattle.engine.specs.declared.Shared.{Shared}
use Rattle.words.specs.Typed.{LoadSmall, Small}
use Rattle.words.proofs.SameLaws.{both}

-- ---- counts

-- a load's run is one of the pages
load_at : (g : Pages) (i : ℕ) → length g.slots ≡ 96 → is_run (kind_of (get_or g.slots i empty_slot)) ≡ true → i < 96
load_at g i l ok = by (ltb i 96) refl
  where
    by : (b : Bool) → ltb i 96 ≡ b → i < 96
    by true e = ltb-true i 96 e
    by false e =
        let out : get_or g.slots i empty_slot ≡ empty_slot = get_or-eq_default g.slots empty_slot {n = i} (omega (arith, l, ltb-false i 96 e)) in
        absurd (true≢false (sym ok ∙ ap (λ (s : Slot). is_run (kind_of s)) out))

load_small : (g : Pages) (m : Option Loading) → length g.slots ≡ 96 → loads_ok g m ≡ true → LoadSmall m
unfolding tile_loads
load_small g None l ok = tt
load_small g (Some m) l ok =
    omega (arith, load_at g m.slot l (both (is_run (kind_of (get_or g.slots m.slot empty_slot))) _ ok).0)

-- the cache's counts
count_of : (c : Cache) → state_ok c ≡ true → c.pages.count ≤ 96
unfolding state_ok
count_of c ok =
    let runs : runs_ok c ≡ true = clause 0 (runs_ok c ∷ ring_ok c ∷ load_ok c ∷ pending_ok c ∷ []) ok in
    leb-true c.pages.count 96 (both (leb c.pages.count 96) _ runs).0

next_of : (c : Cache) → state_ok c ≡ true → c.missing.next < 64
unfolding state_ok
next_of c ok = ltb-true c.missing.next 64 (clause 1 (runs_ok c ∷ ring_ok c ∷ load_ok c ∷ pending_ok c ∷ []) ok)

slot_of : (c : Cache) → length c.pages.slots ≡ 96 → state_ok c ≡ true → LoadSmall c.loading
unfolding state_ok
slot_of c l ok = load_small c.pages c.loading l (clause 2 (runs_ok c ∷ ring_ok c ∷ load_ok c ∷ pending_ok c ∷ []) ok)

state_of : (s : Shared) (size : ℕ) → shared_ok s size ≡ true → state_ok s.cache ≡ true
unfolding shared_ok
state_of s size ok = (both (state_ok s.cache) _ ok).0

-- the follower's
history_of : (h : Places) → places_ok h ≡ true → h.len ≤ 16
unfolding places_ok
history_of h ok = leb-true h.len 16 (both (leb h.len 16) _ ok).0

module _ (e : Engine) (size : ℕ) (ok : engine_ok e size ≡ true) where
  abbrev clauses : List Bool
  clauses =
      shared_ok e.shared size
      ∷ due_ok e.shared e.follower.due
      ∷ sight_ok e.follower.sight
      ∷ matcher_ok e.shared e.follower.matcher
      ∷ ahead_ok e.shared e.follower.ahead
      ∷ failures_ok e.shared.phase e.follower.failures
      ∷ Engines.pending_ok e.shared e.follower.due.need
      ∷ []

  every : all_of clauses ≡ true
  unfolding engine_ok
  every = ok

  state : state_ok e.shared.cache ≡ true
  state = state_of e.shared size (clause 0 clauses every)

  places : places_ok e.follower.sight.history ≡ true
  places = (both (places_ok e.follower.sight.history) _ (both (fix_ok e.follower.sight.fix) _ (clause 2 clauses every)).1).0

  road : (leb e.follower.ahead.len 501 ≡ true) × (leb e.follower.ahead.behind_len 11 ≡ true)
  road =
      let first : (leb e.follower.ahead.len 501 ≡ true) × ((leb e.follower.ahead.behind_len 11 && matched_ok e.shared e.follower.ahead.matched) ≡ true) =
      both (leb e.follower.ahead.len 501) (leb e.follower.ahead.behind_len 11 && matched_ok e.shared e.follower.ahead.matched) (clause 4 clauses every) in
      (first.0, (both (leb e.follower.ahead.behind_len 11) (matched_ok e.shared e.follower.ahead.matched) first.1).0)

  pub small : length e.shared.cache.pages.slots ≡ 96 → Small e
  small l = record {
    count = omega (arith, count_of e.shared.cache state);
    next = omega (arith, next_of e.shared.cache state);
    slot = slot_of e.shared.cache l state;
    history = omega (arith, history_of e.follower.sight.history places);
    len = omega (arith, leb-true e.follower.ahead.len 501 road.0);
    behind = omega (arith, leb-true e.follower.ahead.behind_len 11 road.1);
  }
