-- The causes of number 12 one by one, those of a follower by themselves (`Holds`) and with those of what is shared and of the open fetch (`EngineOk`), and what
-- keeps them: another cache beside the same phase and header, a pack that failed, and each change that a step makes of a follower. The idea: each change
-- leaves most of the parts that the causes speak of as they were.
use Rattle.std.specs.Prelude.{Option, Some, None}
use Prim.Native.Nat.{ℕ, ◌+◌, ◌≤◌}
use mathlib.Core.Path.{◌≡◌, refl}
use mathlib.Core.Bool.{Bool, true, false, ◌&&◌, cond}
use mathlib.Core.List.{List, [], ◌∷◌}
use native.Mathlib.Omega.{arith}
use lib.Dec.{leb}
use borrow.Author.Tests.{ltb-true, le-leb}
use Rattle.pack.specs.Grid.{in_grid}
use Rattle.pack.specs.declared.Header.{Header}
use Rattle.pack.specs.declared.TileKey.{TileKey}
use Rattle.pack.proofs.Laws.{and_left, and_right, clause}
use Rattle.cache.specs.State.{state_ok, arena_ok}
use Rattle.cache.specs.declared.Cache.{Cache}
use Rattle.cache.specs.declared.Pending.{Pending}
use Rattle.matcher.specs.declared.Matched.{Matched}
use Rattle.matcher.specs.Calls as Matching
use Rattle.matcher.specs.State.{counts_ok, edge_ok}
use Rattle.matcher.specs.declared.Matcher.{Matcher}
use Rattle.predict.specs.declared.End.{End}
use Rattle.predict.specs.declared.Prediction.{Prediction}
use Rattle.engine.specs.Publish.{without_match, with_match}
use Rattle.engine.specs.declared.Ahead.{Ahead}
use Rattle.engine.specs.declared.Fix.{Fix}
use Rattle.engine.specs.declared.Follower.{Follower}
use Rattle.engine.specs.Deliver.{failing, needless}
use Rattle.engine.specs.State.{header_ok, shared_ok, held_ok, need_ok, matched_ok, pending_ok, sight_ok, ahead_ok, failures_ok, matcher_ok, reload_limit, due_ok, engine_ok}
use Rattle.engine.specs.Work.{with_due, counted, is_matched, emptied, off_map, asking, may_ask, match_done, matched_by, matched, match_asks, no_road, published, road_asks, road_off, rematch}
use Rattle.engine.specs.declared.Engine.{Engine}
use Rattle.engine.specs.declared.Phase.{Phase}
use Rattle.engine.specs.declared.Shared.{Shared}
use Rattle.engine_states.proofs.MatcherKept.{PlacedIn, Standing}
use Rattle.engine_states.proofs.SightKept.{both}

-- ---- the causes, one by one

-- those of a follower, whoever's the open fetch is
pub record Holds (s : Shared) (f : Follower) : Type 0 where
  pub due : due_ok s f.due ≡ true
  pub sight : sight_ok f.sight ≡ true
  pub matcher : matcher_ok s f.matcher ≡ true
  pub ahead : ahead_ok s f.ahead ≡ true
  pub failures : failures_ok s.phase f.failures ≡ true

-- with those of what is shared, and of the open fetch
pub record EngineOk (s : Shared) (f : Follower) (n : ℕ) : Type 0 where
  pub shared : shared_ok s n ≡ true
  pub holds : Holds s f
  pub pending : pending_ok s f.due.need ≡ true

abbrev causes : Engine → ℕ → List Bool
causes e n =
    shared_ok e.shared n ∷ due_ok e.shared e.follower.due ∷ sight_ok e.follower.sight ∷ matcher_ok e.shared e.follower.matcher
    ∷ ahead_ok e.shared e.follower.ahead ∷ failures_ok e.shared.phase e.follower.failures
    ∷ pending_ok e.shared e.follower.due.need ∷ []

pub apart : (e : Engine) (n : ℕ) → engine_ok e n ≡ true → EngineOk e.shared e.follower n
unfolding engine_ok
apart e n ok = record {
  shared = clause 0 (causes e n) ok;
  holds = record {
    due = clause 1 (causes e n) ok;
    sight = clause 2 (causes e n) ok;
    matcher = clause 3 (causes e n) ok;
    ahead = clause 4 (causes e n) ok;
    failures = clause 5 (causes e n) ok;
  };
  pending = clause 6 (causes e n) ok;
}

pub together : (e : Engine) (n : ℕ) → EngineOk e.shared e.follower n → engine_ok e n ≡ true
unfolding engine_ok
together e n ok =
    let f = ok.holds in rw (ok.shared, f.due, f.sight, f.matcher, f.ahead, f.failures, ok.pending)

-- another follower over what is shared: that needs the same tile, or with no fetch open
pub same_fetch : (s : Shared) (f g : Follower) (n : ℕ) → EngineOk s f n → g.due.need ≡ f.due.need → Holds s g → EngineOk s g n
same_fetch s f g n ok same h = record { shared = ok.shared; holds = h; pending = rw same ok.pending }

pub none_pending : (s : Shared) (need : Option TileKey) → s.cache.pending ≡ Pending.Nothing → pending_ok s need ≡ true
none_pending s need idle = rw idle

pub no_fetch : (s : Shared) (f g : Follower) (n : ℕ) → EngineOk s f n → s.cache.pending ≡ Pending.Nothing → Holds s g → EngineOk s g n
no_fetch s f g n ok idle h = record { shared = ok.shared; holds = h; pending = none_pending s g.due.need idle }

-- ---- another cache beside the same phase and header

abbrev pub with_cache : Shared → Cache → Shared
with_cache s c = record { phase = s.phase; header = s.header; cache = c }

need_cache : (s : Shared) (c : Cache) (need : Option TileKey) → need_ok s need ≡ true → need_ok (with_cache s c) need ≡ true
need_cache s c None ok = refl
need_cache s c (Some key) ok = ok

matched_cache : (s : Shared) (c : Cache) (m : Option Matched) → matched_ok s m ≡ true → matched_ok (with_cache s c) m ≡ true
matched_cache s c None ok = refl
matched_cache s c (Some m) ok = ok

-- what a follower holds, over another cache of as many pages
module _ (s : Shared) (c : Cache) (f : Follower) (h : Holds s f) where
  matcher_cache : matcher_ok (with_cache s c) f.matcher ≡ true
  matcher_cache =
      both (counts_ok f.matcher) _ (and_left (counts_ok f.matcher) _ h.matcher)
      (matched_cache s c f.matcher.current (and_right (counts_ok f.matcher) _ h.matcher))

  ahead_cache : ahead_ok (with_cache s c) f.ahead ≡ true
  ahead_cache =
      let rest : (leb f.ahead.behind_len 11 && matched_ok s f.ahead.matched) ≡ true = and_right (leb f.ahead.len 501) _ h.ahead in
      both (leb f.ahead.len 501) _ (and_left (leb f.ahead.len 501) _ h.ahead)
      (both (leb f.ahead.behind_len 11) _ (and_left (leb f.ahead.behind_len 11) _ rest)
      (matched_cache s c f.ahead.matched (and_right (leb f.ahead.behind_len 11) _ rest)))

  pub cache_holds : c.pages.count ≡ s.cache.pages.count → Holds (with_cache s c) f
  cache_holds count = record {
    due =
        both (leb f.due.reloads (reload_limit c.pages.count)) _
        (rw count (and_left (leb f.due.reloads (reload_limit s.cache.pages.count)) _ h.due))
        (need_cache s c f.due.need (and_right (leb f.due.reloads (reload_limit s.cache.pages.count)) _ h.due));
    sight = h.sight;
    matcher = matcher_cache;
    ahead = ahead_cache;
    failures = h.failures;
  }

module _ (s : Shared) (c : Cache) (f : Follower) (n : ℕ) (ok : EngineOk s f n) where
  shared_cache : state_ok c ≡ true → c.pages.count ≡ s.cache.pages.count → shared_ok (with_cache s c) n ≡ true
  unfolding shared_ok
  shared_cache good count =
      let rest : (arena_ok s.cache n && header_ok s) ≡ true = and_right (state_ok s.cache) _ ok.shared in
      both (state_ok c) _ good
      (both (arena_ok c n) _ (rw count (and_left (arena_ok s.cache n) _ rest)) (and_right (arena_ok s.cache n) (header_ok s) rest))

  -- its pages as many, and an open fetch that the state makes
  pub cache_ok : state_ok c ≡ true → c.pages.count ≡ s.cache.pages.count → pending_ok (with_cache s c) f.due.need ≡ true → EngineOk (with_cache s c) f n
  cache_ok good count fits = record { shared = shared_cache good count; holds = cache_holds s c f ok.holds count; pending = fits }

-- ---- a follower that is changed

emptied_ok : (s : Shared) (a : Ahead) (at : ℕ) (end : End) → ahead_ok s a ≡ true → ahead_ok s (emptied a at end) ≡ true
unfolding without_match
emptied_ok s a at end ok = by (is_matched a.matched)
  where
    by : (t : Bool) → ahead_ok s (cond t (without_match a at end) a) ≡ true
    by true = refl
    by false = ok

module _ (s : Shared) (f : Follower) (ok : Holds s f) where
  pub off_map_ok : (fix : Fix) → Holds s (off_map f fix)
  unfolding off_map
  off_map_ok fix = record {
    due = ok.due;
    sight = ok.sight;
    matcher = by (is_matched f.ahead.matched);
    ahead = emptied_ok s f.ahead _ _ ok.ahead;
    failures = ok.failures;
  }
    where
      by : (t : Bool) → matcher_ok s (cond t Matching.reset f.matcher) ≡ true
      by true = refl
      by false = ok.matcher

  pub road_off_ok : Holds s (with_due f (road_off f.due))
  road_off_ok =
      record { due = ok.due; sight = ok.sight; matcher = ok.matcher; ahead = ok.ahead; failures = ok.failures }

  pub counted_ok : Holds s (counted f)
  counted_ok =
      record { due = ok.due; sight = ok.sight; matcher = ok.matcher; ahead = ok.ahead; failures = ok.failures }

  pub rematch_ok : Holds s (rematch f)
  rematch_ok = record { due = ok.due; sight = ok.sight; matcher = refl; ahead = ok.ahead; failures = ok.failures }

-- ---- a match and a road

placed_of : (s : Shared) (x : Option Matched) → s.phase ≡ Phase.Ready → edge_ok x ≡ true → matched_ok s x ≡ true → PlacedIn s.header x
placed_of s None ready edge key = tt
placed_of s (Some m) ready edge key = record { grid = rw ready at key; edge = edge }

placed_edge : (h : Header) (x : Option Matched) → PlacedIn h x → edge_ok x ≡ true
placed_edge h None p = refl
placed_edge h (Some m) p = p.edge

placed_key : (s : Shared) (x : Option Matched) → s.phase ≡ Phase.Ready → PlacedIn s.header x → matched_ok s x ≡ true
placed_key s None ready p = refl
placed_key s (Some m) ready p = rw ready p.grid

module _ (s : Shared) (m : Matcher) (ready : s.phase ≡ Phase.Ready) where
  pub standing_of : matcher_ok s m ≡ true → Standing s.header m
  standing_of ok =
      let counts : counts_ok m ≡ true = and_left (counts_ok m) _ ok in
      record {
        current = placed_of s m.current ready (and_left (edge_ok m.current) _ counts) (and_right (counts_ok m) _ ok);
        challenger = and_right (edge_ok m.current) _ counts;
      }

  pub standing_ok : Standing s.header m → matcher_ok s m ≡ true
  standing_ok p =
      both (counts_ok m) _ (both (edge_ok m.current) _ (placed_edge s.header m.current p.current) p.challenger)
      (placed_key s m.current ready p.current)

either_follower : (t : Bool) (s : Shared) (f g : Follower) → (t ≡ true → Holds s f) → Holds s g → Holds s (cond t f g)
either_follower true s f g p q = p refl
either_follower false s f g p q = q

module _ (s : Shared) (f : Follower) (ok : Holds s f) where
  -- the reloads begin anew
  done_due : due_ok s (match_done f.due false) ≡ true
  done_due =
      both (leb 0 (reload_limit s.cache.pages.count)) _ (le-leb 0 (reload_limit s.cache.pages.count) (omega arith))
      (and_right (leb f.due.reloads (reload_limit s.cache.pages.count)) _ ok.due)

  matched_by_ok : (x : Option Matched) (m : Matcher) (fix : Fix) → matcher_ok s m ≡ true → Holds s (matched_by x f m fix)
  matched_by_ok None m fix good = record {
    due = done_due;
    sight = ok.sight;
    matcher = good;
    ahead = emptied_ok s f.ahead _ _ ok.ahead;
    failures = ok.failures;
  }
  matched_by_ok (Some found) m fix good =
      record { due = done_due; sight = ok.sight; matcher = good; ahead = ok.ahead; failures = ok.failures }

  pub matched_ok_lem : (m : Matcher) (fix : Fix) → matcher_ok s m ≡ true → Holds s (matched f m fix)
  unfolding matched
  matched_ok_lem m fix good = matched_by_ok m.current m fix good

  pub published_ok : (a : Ahead) (fix : Fix) (found : Matched) (p : Prediction) → held_ok s found.tile.key ≡ true → p.len ≤ 501 → p.behind ≤ 11
      → Holds s (published f a fix found p)
  unfolding published with_match
  published_ok a fix found p key ahead behind = record {
    due = done_due;
    sight = ok.sight;
    matcher = ok.matcher;
    ahead = both (leb p.len 501) _ (le-leb p.len 501 ahead) (both (leb p.behind 11) _ (le-leb p.behind 11 behind) key);
    failures = ok.failures;
  }

  module _ (ready : s.phase ≡ Phase.Ready) (key : TileKey) (is_in_grid : in_grid s.header key ≡ true) where
    asks_ok : may_ask f.due s.cache.pages.count ≡ true → Holds s (with_due f (asking f.due key (f.due.reloads + 1)))
    asks_ok may = record {
      due =
          let most = reload_limit s.cache.pages.count in
          both (leb (f.due.reloads + 1) most) _ (le-leb (f.due.reloads + 1) most (omega (arith, ltb-true f.due.reloads most may)))
          (rw ready is_in_grid);
      sight = ok.sight;
      matcher = ok.matcher;
      ahead = ok.ahead;
      failures = ok.failures;
    }

    pub match_asks_ok : Holds s (match_asks f s.cache.pages.count key)
    match_asks_ok =
        either_follower (may_ask f.due s.cache.pages.count) s _ _ asks_ok
        (record { due = done_due; sight = ok.sight; matcher = ok.matcher; ahead = ok.ahead; failures = ok.failures })

    pub road_asks_ok : (fix : Fix) (found : Matched) → held_ok s found.tile.key ≡ true → Holds s (road_asks f s.cache.pages.count fix found key)
    road_asks_ok fix found held =
        either_follower (may_ask f.due s.cache.pages.count) s _ _ asks_ok
        (published_ok f.ahead fix found no_road held (omega arith) (omega arith))

-- ---- a part of a tile

pub needless_ok : (s : Shared) (f : Follower) → Holds s f → Holds s (failing (with_due f (needless f.due)) 0)
needless_ok s f ok = record {
  due =
      both (leb f.due.reloads (reload_limit s.cache.pages.count)) true
      (and_left (leb f.due.reloads (reload_limit s.cache.pages.count)) _ ok.due) refl;
  sight = ok.sight;
  matcher = ok.matcher;
  ahead = ok.ahead;
  failures = refl;
}

-- a pack that failed keeps what is needed and matched
abbrev failed_with : Shared → Cache → Shared
failed_with s c = record { phase = Phase.Failed; header = s.header; cache = c }

need_failed : (s : Shared) (c : Cache) (need : Option TileKey) → need_ok (failed_with s c) need ≡ true
need_failed s c None = refl
need_failed s c (Some key) = refl

matched_failed : (s : Shared) (c : Cache) (m : Option Matched) → matched_ok (failed_with s c) m ≡ true
matched_failed s c None = refl
matched_failed s c (Some m) = refl

pub failing_ok : (s : Shared) (f : Follower) (k : ℕ) → failures_ok s.phase k ≡ true → Holds s f → Holds s (failing f k)
failing_ok s f k few ok =
    record { due = ok.due; sight = ok.sight; matcher = ok.matcher; ahead = ok.ahead; failures = few }

pub failed_holds : (s : Shared) (c : Cache) (f : Follower) (k : ℕ) → c.pages.count ≡ s.cache.pages.count → failures_ok Phase.Failed k ≡ true → Holds s f
    → Holds (failed_with s c) (failing f k)
failed_holds s c f k count few ok =
    let behind : (leb f.ahead.behind_len 11 && matched_ok s f.ahead.matched) ≡ true = and_right (leb f.ahead.len 501) _ ok.ahead in
    record {
      due =
          both (leb f.due.reloads (reload_limit c.pages.count)) _
          (rw count (and_left (leb f.due.reloads (reload_limit s.cache.pages.count)) _ ok.due))
          (need_failed s c f.due.need);
      sight = ok.sight;
      matcher = both (counts_ok f.matcher) _ (and_left (counts_ok f.matcher) _ ok.matcher) (matched_failed s c f.matcher.current);
      ahead =
          both (leb f.ahead.len 501) _ (and_left (leb f.ahead.len 501) _ ok.ahead)
          (both (leb f.ahead.behind_len 11) _ (and_left (leb f.ahead.behind_len 11) _ behind) (matched_failed s c f.ahead.matched));
      failures = few;
    }

pub failed_ok : (s : Shared) (f : Follower) (n : ℕ) → s.cache.pending ≡ Pending.Nothing → EngineOk s f n → EngineOk (failed_with s s.cache) (failing f 8) n
unfolding shared_ok
failed_ok s f n idle ok =
    let shared : (arena_ok s.cache n && header_ok s) ≡ true = and_right (state_ok s.cache) _ ok.shared in
    record {
      shared =
          both (state_ok s.cache) _ (and_left (state_ok s.cache) _ ok.shared)
          (both (arena_ok s.cache n) true (and_left (arena_ok s.cache n) _ shared) refl);
      holds = failed_holds s s.cache f 8 refl refl ok.holds;
      pending = none_pending (failed_with s s.cache) f.due.need idle;
    }
