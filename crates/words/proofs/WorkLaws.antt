-- What a match and a road leave on words. What is read from words is what their engine has (`cache_in`, .., `horizon_in`); the parts that change, each put at its place, give the words of the
-- engine that is left (`asked_words`, .., `gone_words`); and the engine's own definitions by what the code tests (`matched_found`, .., `road_refuses`), and over the numbers that a road's lookups go by (`road_looked`). The idea: accepted words are those of
-- their engine, and a piece put at its place gives the words of the engine with that part (`SetLaws`).
use Rattle.refusal.specs.Refusal.{number_of}
use Rattle.refusal.specs.declared.Refusal.{Refusal}
use Rattle.std.specs.Prelude.{Option, Some, None, Result, Ok, Err}
use Rattle.std.proofs.Common.{◌≡◌, ℕ, ◌+◌, Bool, true, false, cond, eqb, ◌⊎◌, inl, inr, List, [], ◌∷◌, get_or, replicate, ℤ, pos, sym, refl, ap, ◌∙◌, ⊎_elim, true≢false, eqb-true}
use Rattle.pack.specs.declared.TileKey.{TileKey}
use Rattle.cache.specs.Ages as Ages
use Rattle.cache.specs.Ages.{lookups_of, uses_from}
use Rattle.cache.specs.Lookups.{after}
use Rattle.cache.specs.Stands.{Sized}
use Rattle.cache.specs.Uses.{with_uses}
use Rattle.cache.specs.declared.Aging.{Aging}
use Rattle.cache.specs.declared.Cache.{Cache}
use Rattle.matcher.specs.Calls.{reset}
use Rattle.matcher.specs.declared.Made.{Made}
use Rattle.matcher.specs.declared.Matched.{Matched}
use Rattle.matcher.specs.declared.Matcher.{Matcher}
use Rattle.matcher.specs.declared.Outcome.{Outcome}
use Rattle.matcher.specs.declared.Updated.{Updated}
use Rattle.predict.specs.Predict.{Forecast, After, after_of, from_looks}
use Rattle.predict.specs.declared.End.TheVariants as End
use Rattle.predict.specs.declared.Outcome as RoadOutcome
use Rattle.predict.specs.declared.Outcome.TheVariants as Road
use Rattle.predict.specs.declared.Prediction.{Prediction}
use Rattle.predict.proofs.InCache.{looks_predict}
use Rattle.engine.specs.Plans.{left_map, road_dropped, match_made, matched_due, asking_due, road_refusal}
use Rattle.engine.specs.Publish.{with_match}
use Rattle.engine.specs.State.{refused}
use Rattle.engine.specs.Work.{asking, counted, ended, emptied, is_matched, may_ask, matched, matched_by, match_asks, match_done, match_ended_by, matching_off, matching_on, off_map, published, rematch, road_done, road_ended_by, road_off, road_step, with_matcher, with_due, with_ahead, with_heights}
use Rattle.engine.specs.declared.Ahead.{Ahead}
use Rattle.engine.specs.declared.Due.{Due}
use Rattle.engine.specs.declared.Engine.{Engine}
use Rattle.engine.specs.declared.Fix.{Fix}
use Rattle.engine.specs.declared.Follower.{Follower}
use Rattle.engine.specs.declared.Status.{Status}
use Rattle.engine.proofs.StepNeeds.{road_refused}
use Rattle.words.specs.Put.{put, uses_in}
use Rattle.words.specs.Words as Words
use Rattle.words.specs.Words.{from, float_of, header_by, pages_of, cache_of, shared_of, heading_of, sight_of, current_by, matcher_of, due_of, ahead_of, follower_of, engine_of, used_words, matcher_words, due_words, ahead_words, words, accepted}
use Rattle.words.specs.Worked as Worked
use Rattle.words.proofs.SetLaws.{aged, clocked, matched_as, due_as, ahead_as, counting, used_put, clock_put, matcher_put_in, due_put_in, matching_put, road_due_put, ahead_put_in, steps_put}
use Rattle.words.proofs.WordsLaws.{words_engine}

-- by cases of which the types are known from what is given
pub either {ℓ ℓ' ℓ''} : {A : Type ℓ} {B : Type ℓ'} {C : Type ℓ''} → A ⊎ B → (A → C) → (B → C) → C
either given one other = ⊎_elim one other given

-- ---- what is read

module _ (ws : List ℕ) where
  pub cache_in : cache_of ws 15 ≡ (engine_of ws).shared.cache
  unfolding engine_of shared_of
  cache_in = refl

  pub header_in : header_by (from ws 2) ≡ (engine_of ws).shared.header
  unfolding engine_of shared_of
  header_in = refl

  pub count_in : get_or ws 399 0 ≡ (engine_of ws).shared.cache.pages.count
  unfolding engine_of shared_of cache_of pages_of
  count_in = refl

  pub heading_in : heading_of (get_or ws 577 0) (get_or ws 578 0) ≡ (engine_of ws).follower.sight.heading
  unfolding engine_of follower_of sight_of
  heading_in = refl

  pub matcher_in : matcher_of ws 581 ≡ (engine_of ws).follower.matcher
  unfolding engine_of follower_of
  matcher_in = refl

  pub due_in : due_of ws 603 ≡ (engine_of ws).follower.due
  unfolding engine_of follower_of
  due_in = refl

  pub ahead_in : ahead_of ws 611 ≡ (engine_of ws).follower.ahead
  unfolding engine_of follower_of
  ahead_in = refl

  pub generation_in : get_or ws 611 0 ≡ (engine_of ws).follower.ahead.generation
  unfolding engine_of follower_of ahead_of
  generation_in = refl

  pub published_in : current_by (from ws 614) ≡ (engine_of ws).follower.ahead.matched
  unfolding engine_of follower_of ahead_of
  published_in = refl

  -- whether a match is published is one word
  pub is_published : is_matched (engine_of ws).follower.ahead.matched ≡ eqb (get_or ws 614 0) 1
  unfolding current_by
  is_published = ap is_matched (sym published_in) ∙ by (eqb (get_or ws 614 0) 1)
    where
      by : (b : Bool) → is_matched (cond b (Some (Words.matched_by (from ws 614))) None) ≡ b
      by true = refl
      by false = refl

  pub horizon_in : float_of (get_or ws 1148 0) ≡ (engine_of ws).follower.horizon_m
  unfolding engine_of follower_of
  horizon_in = refl

  steps_in : get_or ws 1149 0 ≡ (engine_of ws).follower.steps
  unfolding engine_of follower_of
  steps_in = refl

-- ---- what is put

-- a piece put into the words of an engine
onto : (at : ℕ) (p : List ℕ) {ws xs ys : List ℕ} → ws ≡ xs → put at p xs ≡ ys → put at p ws ≡ ys
onto at p before law = ap (put at p) before ∙ law

module _ {xs : List ℕ} (e : Engine) (before : xs ≡ words e) where
  due_put : (d : Due) → put 603 (due_words d) xs ≡ words (due_as e d)
  due_put d = onto 603 (due_words d) before (due_put_in e d)

  found_put : (m : Matcher) (d : Due) → put 603 (due_words d) (put 581 (matcher_words m) xs) ≡ words (due_as (matched_as e m) d)
  found_put m d = onto 603 (due_words d) (onto 581 (matcher_words m) before (matcher_put_in e m)) (due_put_in (matched_as e m) d)

module _ (ws : List ℕ) (h : accepted ws ≡ true) where
  abbrev here : Engine
  here = engine_of ws

  own : ws ≡ words here
  own = sym (words_engine ws h)

  -- clock and ages
  abbrev pub aged_by : Aging → Engine
  aged_by a = clocked (aged here a.used) a.clock

  pub uses_words : (a : Aging) → uses_in a ws ≡ words (aged_by a)
  uses_words a = onto 400 (a.clock ∷ []) (onto 303 (used_words a.used) own (used_put here a.used)) (clock_put (aged here a.used) a.clock)

  module _ (n : ℕ) (more : n ≡ after (get_or ws 1149 0)) where
    -- the step counted last
    counts : {xs : List ℕ} (e : Engine) → xs ≡ words e → put 1149 (n ∷ []) xs ≡ words (counting e (after here.follower.steps))
    counts {xs} e before =
        ap (λ (k : ℕ). put 1149 (k ∷ []) xs) (more ∙ ap after (steps_in ws))
        ∙ onto 1149 (after here.follower.steps ∷ []) before (steps_put e (after here.follower.steps))

    -- a match, once clock and ages are put
    pub asked_words : (d : Due) → put 1149 (n ∷ []) (put 603 (due_words d) ws) ≡ words (Worked.asked here d)
    asked_words d = counts (due_as here d) (due_put here own d)

    pub found_words : (m : Matcher) (d : Due) → put 1149 (n ∷ []) (put 603 (due_words d) (put 581 (matcher_words m) ws)) ≡ words (Worked.found here m d)
    found_words m d = counts (due_as (matched_as here m) d) (found_put here own m d)

    pub lost_words : (m : Matcher) (d : Due) (at : ℕ)
        → put 1149 (n ∷ []) (put 611 (ahead_words (emptied here.follower.ahead at End.Uncertain)) (put 603 (due_words d) (put 581 (matcher_words m) ws)))
        ≡ words (Worked.lost here m d at)
    lost_words m d at =
        let e : Engine = due_as (matched_as here m) d in
        let empty : Ahead = emptied here.follower.ahead at End.Uncertain in
        counts (ahead_as e empty) (onto 611 (ahead_words empty) (found_put here own m d) (ahead_put_in e empty))

    -- a road, with clock and ages
    pub rematched_words : (a : Aging)
        → put 1149 (n ∷ []) (put 603 (due_words (matching_on here.follower.due)) (put 581 (matcher_words reset) (uses_in a ws)))
        ≡ words (Worked.rematched here a)
    rematched_words a =
        let due : Due = matching_on here.follower.due in
        counts (due_as (matched_as (aged_by a) reset) due) (found_put (aged_by a) (uses_words a) reset due)

    pub published_words : (a : Aging) (d : Due) (road : Ahead)
        → put 1149 (n ∷ []) (put 611 (ahead_words road) (put 603 (due_words d) (uses_in a ws)))
        ≡ words (Worked.leaves here (with_uses here.shared.cache a) (with_ahead (with_due (counted here.follower) d) road))
    published_words a d road =
        let e : Engine = due_as (aged_by a) d in
        counts (ahead_as e road) (onto 611 (ahead_words road) (due_put (aged_by a) (uses_words a) d) (ahead_put_in e road))

    pub dropped_words : put 1149 (n ∷ []) (put 604 (0 ∷ []) ws) ≡ words (road_dropped here).engine
    dropped_words = counts (due_as here (road_off here.follower.due)) (onto 604 (0 ∷ []) (sym (words_engine ws h)) (road_due_put here false))

    -- ---- off the map

    abbrev leaving : Engine → Engine
    leaving e = counting (due_as e (matching_off e.follower.due)) (after here.follower.steps)

    left_put : {xs : List ℕ} (e : Engine) → xs ≡ words e → put 1149 (n ∷ []) (put 603 (0 ∷ []) xs) ≡ words (leaving e)
    left_put e before = counts (due_as e (matching_off e.follower.due)) (onto 603 (0 ∷ []) before (matching_put e false))

    -- with a road that is published
    pub gone_left : (fix : Fix) → is_matched here.follower.ahead.matched ≡ true → {xs : List ℕ} → xs ≡ words (Worked.road_gone here fix.at_ms)
        → put 1149 (n ∷ []) (put 603 (0 ∷ []) xs) ≡ words (left_map here fix).engine
    unfolding off_map
    gone_left fix q before =
        let empty : Ahead = emptied here.follower.ahead fix.at_ms End.MapEdge in
        left_put (Worked.road_gone here fix.at_ms) before
        ∙ ap (λ (b : Bool). words (leaving (ahead_as (matched_as here (cond b reset here.follower.matcher)) empty))) (sym q)

    -- and without one
    pub still_left : (fix : Fix) → is_matched here.follower.ahead.matched ≡ false → {xs : List ℕ} → xs ≡ ws
        → put 1149 (n ∷ []) (put 603 (0 ∷ []) xs) ≡ words (left_map here fix).engine
    unfolding off_map
    still_left fix q before = rw q (left_put here (before ∙ sym (words_engine ws h)))

pub gone_words : (ws : List ℕ) → accepted ws ≡ true → (at : ℕ)
    → put 611 (ahead_words (emptied (engine_of ws).follower.ahead at End.MapEdge)) (put 581 (matcher_words reset) ws) ≡ words (Worked.road_gone (engine_of ws) at)
gone_words ws h at =
    let e : Engine = engine_of ws in
    let empty : Ahead = emptied e.follower.ahead at End.MapEdge in
    onto 611 (ahead_words empty) (onto 581 (matcher_words reset) (sym (words_engine ws h)) (matcher_put_in e reset)) (ahead_put_in (matched_as e reset) empty)

-- ---- how a match ends

abbrev due_for : Option Matched → Follower → Fix → Due
due_for o f fix = matched_due f.due o f.ahead.matched fix.at_ms

module _ (f : Follower) (m : Matcher) (fix : Fix) where
  by_found : (o : Option Matched) → is_matched o ≡ true → matched_by o f m fix ≡ with_due (with_matcher f m) (due_for o f fix)
  by_found None q = absurd (true≢false (sym q))
  by_found (Some found) q = refl

  by_none : (o : Option Matched) → is_matched o ≡ false
      → matched_by o f m fix ≡ with_due (with_ahead (with_matcher f m) (emptied f.ahead fix.at_ms End.Uncertain)) (due_for o f fix)
  by_none None q = refl
  by_none (Some found) q = absurd (true≢false q)

  -- with a match
  pub matched_found : is_matched m.current ≡ true → matched f m fix ≡ with_due (with_matcher f m) (due_for m.current f fix)
  unfolding matched
  matched_found q = by_found m.current q

  -- without one
  pub matched_lost : is_matched m.current ≡ false
      → matched f m fix ≡ with_due (with_ahead (with_matcher f m) (emptied f.ahead fix.at_ms End.Uncertain)) (due_for m.current f fix)
  unfolding matched
  matched_lost q = by_none m.current q

  -- and none is published
  pub matched_still : is_matched m.current ≡ false → is_matched f.ahead.matched ≡ false → matched f m fix ≡ with_due (with_matcher f m) (due_for m.current f fix)
  matched_still q none = matched_lost q ∙ rw none

made_by : (o : Outcome) → ((m : Matched) × (o ≡ Outcome.Found m)) ⊎ (o ≡ Outcome.Nothing) → (e : Engine) (f : Follower) (fix : Fix) (u : Updated)
    → match_ended_by (Ok o) e f fix u ≡ ended e u.cache (matched f u.matcher fix) (Ok Status.Working)
made_by o (inl found) e f fix u = rw found.1
made_by o (inr q) e f fix u = rw q

-- with a match or without one
pub match_made_lem : (e : Engine) (fix : Fix) (u : Made) {o : Outcome} → u.answer ≡ Ok o → ((f : Matched) × (o ≡ Outcome.Found f)) ⊎ (o ≡ Outcome.Nothing)
    → match_made e fix u ≡ ended e (with_uses e.shared.cache u.uses) (matched (counted e.follower) u.matcher fix) (Ok Status.Working)
match_made_lem e fix u {o} a h =
    ap (λ (x : Result Outcome Refusal). match_ended_by x e (counted e.follower) fix (record { answer = u.answer; matcher = u.matcher; cache = with_uses e.shared.cache u.uses })) a
    ∙ made_by o h e (counted e.follower) fix (record { answer = u.answer; matcher = u.matcher; cache = with_uses e.shared.cache u.uses })

-- for want of a tile: what the step tells, by the one test
pub asks_told : (b : Bool) → ◌≡◌ {A = Result Status Refusal} (Ok (cond b Status.Working Status.Idle)) (cond b (Ok Status.Working) (Ok Status.Idle))
asks_told true = refl
asks_told false = refl

-- and what is due
pub asks_due : (f : Follower) (pages : ℕ) (key : TileKey) → match_asks f pages key ≡ with_due f (asking_due f.due pages key)
asks_due f pages key = by (may_ask f.due pages) (asking f.due key (f.due.reloads + 1)) (match_done f.due f.due.road)
  where
    by : (b : Bool) (x y : Due) → cond b (with_due f x) (with_due f y) ≡ with_due f (cond b x y)
    by true x y = refl
    by false x y = refl

-- ---- a road

-- a road published over heights
pub road_published : (f : Follower) (samples behind : List ℤ) (fix : Fix) (m : Matched) (p : Prediction)
    → published f (with_heights f.ahead samples behind) fix m p
    ≡ with_ahead (with_due f (road_done f.due fix.at_ms)) (Worked.road_of f.ahead.generation fix.at_ms m p samples behind)
unfolding published with_match
road_published f samples behind fix m p = refl

module _ (e : Engine) (fix : Fix) (m : Matched) where
  abbrev next : Follower
  next = counted e.follower

  module _ (answer : Result RoadOutcome.Outcome Refusal) (uses : Aging) (samples behind : List ℤ) where
    abbrev left : Cache
    left = with_uses e.shared.cache uses

    abbrev worked : After
    worked = record { predicted = record { answer = answer; cache = left }; samples = samples; behind = behind }

    -- one that refuses the step
    pub road_refuses : {refusal : Refusal} → road_refusal answer ≡ Some refusal → Worked.road_ended e fix m answer uses samples behind ≡ refused e refusal
    road_refuses {refusal} fails = road_refused answer refusal fails e next fix m worked

  -- after a late 12 the step is refused: so clock and ages may be put beside every other answer
  road_closed : (o : Result RoadOutcome.Outcome Refusal) (looks : List ℕ) (samples behind : List ℤ)
      → Worked.road_ended e fix m o (uses_from looks) samples behind
      ≡ road_ended_by o e next fix m (after_of e.shared.cache (record { answer = o; samples = samples; behind = behind; carried = looks }))
  unfolding Ages.aged
  road_closed (Ok (Road.Road p)) looks samples behind = refl
  road_closed (Ok (Road.Need key)) looks samples behind = refl
  road_closed (Ok Road.Rematch) looks samples behind = refl
  road_closed (Err refusal) looks samples behind = by (eqb (number_of refusal) 10) refl
    where
      by : (t : Bool) → eqb (number_of refusal) 10 ≡ t
          → cond t (ended e (with_uses e.shared.cache (uses_from looks)) (rematch next) (Ok Status.Working)) (refused e refusal)
          ≡ cond t (ended e (cond (eqb (number_of refusal) 12) e.shared.cache (Ages.aged e.shared.cache looks)) (rematch next) (Ok Status.Working)) (refused e refusal)
      by true q = let ten : number_of refusal ≡ 10 = eqb-true (number_of refusal) 10 q in rw ten
      by false q = refl

  -- a road over the numbers that its lookups go by
  module _ (sized : Sized e.shared.cache) (arena : List ℕ) where
    abbrev road : Forecast (List ℕ)
    road = from_looks (lookups_of e.shared.cache) arena e.shared.cache.pages.count e.shared.header m e.follower.horizon_m (replicate 501 (pos 0)) (replicate 11 (pos 0))

    pub road_looked : Worked.road_ended e fix m road.answer (uses_from road.carried) road.samples road.behind ≡ road_step e arena next fix m
    unfolding road_step
    road_looked =
        road_closed road.answer road.carried road.samples road.behind
        ∙ ap (λ (x : After). road_ended_by x.predicted.answer e next fix m x)
        (looks_predict e.shared.cache sized arena e.shared.header m e.follower.horizon_m (replicate 501 (pos 0)) (replicate 11 (pos 0)))
