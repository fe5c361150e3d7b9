-- Under the premises, with an arena as long as its pages, no call is refused with 12 but for a matcher that the caller gives, and a step's road ends neither
-- by 6 nor by 10. The idea: what is ready holds what the pack has, so it passes; and the current match was found in a tile of the pack.
use Rattle.refusal.specs.declared.Refusal.{Refusal}
use Rattle.refusal.specs.Refusal.{number_of, number_of_result}
use Rattle.std.specs.Prelude.{Result, Ok, Err, Option, Some, None}
use Rattle.cache.specs.declared.Loading.{Loading}
use Prim.Native.Nat.{ℕ, ◌*◌, ◌<◌, ◌≤◌}
use mathlib.Core.Path.{◌≡◌, refl, sym, ap, subst, ◌∙◌}
use mathlib.Core.Bool.{Bool, true, false, cond, true≢false}
use mathlib.Core.List.{List}
use mathlib.Core.Logic.{◌⊎◌, inr, ⊎_elim}
use native.Mathlib.Omega.{arith}
use borrow.Author.Tests.{eqb-true}
use lib.Dec.{eqb}
use lib.Ieee.{Float}
use lib.IntN.{pos}
use lib.ListN.{length, replicate}
use Rattle.num.proofs.FoldLaws.{up_keeps}
use Rattle.pack.specs.Sector.{rules}
use Rattle.pack.specs.declared.Header.{Header}
use Rattle.pack.specs.declared.TileKey.{TileKey}
use Rattle.geo.specs.declared.Point.{Point}
use Rattle.cache.specs.Direct.{Look, ready, missing, absent, stale, Agree, look_at, look}
use Rattle.cache.specs.Lookups.{lands_on, run_bytes, passes, len_at}
use Rattle.cache.specs.Keys.{ready_at}
use Rattle.cache.specs.State.{wants_chunk_of}
use Rattle.cache.specs.declared.Cache.{Cache}
use Rattle.cache.specs.declared.Pending.{Pending}
use Rattle.cache.specs.declared.look.Landing.{Landing}
use Rattle.cache_lists.specs.Claims.{Parsed}
use Rattle.cache_lists.proofs.Lookups.{LandingIs, landing, next_is}
use Rattle.cache_lists.proofs.Kept.{Kept}
use Rattle.cache_lists.proofs.Same.{header_is, kept_passes, given, parsed_rules}
use Rattle.matcher.specs.declared.Heading.{Heading}
use Rattle.matcher.specs.declared.Kept as Keeping
use Rattle.matcher.specs.declared.Matched.{Matched}
use Rattle.matcher.specs.declared.Query.{Query}
use Rattle.matcher.specs.Gather as Gather
use Rattle.matcher.specs.Gather.{Run, look_step, key_step, run_step, no_run, run_to, query_of, run_over}
use Rattle.matcher.specs.Near.{key_at, near_of}
use Rattle.matcher.specs.Relied.{Accepted, FoundIn}
use Rattle.matcher.specs.Settle as Settle
use Rattle.matcher.specs.declared.Matcher.{Matcher}
use Rattle.matcher.specs.declared.NearKeys.{NearKeys}
use Rattle.matcher.specs.declared.Outcome as MatchOutcome
use Rattle.matcher.specs.declared.Outcome.TheVariants as Match
use Rattle.matcher.specs.declared.gather.Ending.{Ending}
use Rattle.matcher.proofs.WithinLaws.{update_within}
use Rattle.matcher.specs.Calls as Matching
use Rattle.predict.specs.Predict as Predict
use Rattle.predict.specs.declared.Outcome as RoadOutcome
use Rattle.predict.specs.declared.Outcome.TheVariants as Roads
use Rattle.engine.specs.Follow.{is_matched}
use Rattle.engine.specs.declared.Fix.{Fix}
use Rattle.engine.specs.State.{refused, engine_ok}
use Rattle.engine.specs.Work.{counted, ended, off_map, may_ask, match_ended_by, rematch, road_ended_by, published}
use Rattle.engine.specs.Deliver.{arrived}
use Rattle.engine.specs.Steps.{chunk_request, request_of}
use Rattle.engine.specs.declared.Engine.{Engine}
use Rattle.engine.specs.declared.Phase.TheVariants as Phase
use Rattle.engine.specs.declared.Status.{Status}
use Rattle.engine.specs.declared.Stepped.{Stepped}
use Rattle.engine_states.proofs.MatcherKept.{look_accepted}
use Rattle.engine_states.proofs.RoadBounds.{road_not_stale}
use Rattle.direct.proofs.OneNumber.{bad_start, bad_state}
use Rattle.direct.specs.Lists.{World}
use Rattle.direct.specs.Finished as Shows
use Rattle.direct.specs.Finished.{Shown, Task, match_of, road_at, match_shown, road_shown, task_shown}
use Rattle.direct.specs.Direct.{header_of, directly}
use Rattle.direct.specs.Claims.{is_open, open_read}
use Rattle.engine_states.proofs.Ways as Ways
use Rattle.engine_states.proofs.Ways.{open_fits, Steps}
use Rattle.direct.proofs.Beside.{match_asks_lem, road_asks_lem, match_holds}
use Rattle.direct.proofs.Fit.{Fit}
use Rattle.direct.proofs.Agreed.{look_agrees}
use Rattle.direct.proofs.Started.{road_not_rematch, road_start_fits}

-- ---- no lookup lands on a run that no longer passes

pub not_stale : (P : List ℕ) (h : Header) (n : ℕ) (c : Cache) (arena : List ℕ) → Kept P h n c arena → rules h ≡ true → n * 8192 ≤ length arena
    → (key : TileKey) → look c arena h.tile key ≡ stale → ⊥
unfolding look
not_stale P h n c arena k ok long key e = by (lands_on c key) (landing c key) e
  where
    run : (i : ℕ) (t : Bool) → t ≡ true → cond t (ready (run_bytes arena i (len_at c i))) stale ≡ stale → ⊥
    run i true p e = let z : ◌≡◌ {A = ℕ} 0 1 = cc in omega arith
    run i false p e = true≢false (sym p)

    by : (x : Landing) → LandingIs c key x → look_at x c.pages.slots arena h.tile key ≡ stale → ⊥
    by Landing.Missing l e = let z : ◌≡◌ {A = ℕ} 0 1 = cc in omega arith
    by Landing.Nothing l e = let z : ◌≡◌ {A = ℕ} 0 1 = cc in omega arith
    by (Landing.At i) l e = run i (passes arena i (len_at c i) key h.tile) (kept_passes P h n key c arena k ok long i l) e

-- ---- a match over such lookups is not refused

module _ (at : TileKey → Look) (fresh : (key : TileKey) → at key ≡ stale → ⊥) where
  abbrev Fresh : Run → Type 0
  Fresh r = r.end ≡ Ending.Stale → ⊥

  module _ (q : Query) where
    look_fresh : (x : Look) (r : Run) (key : TileKey) → at key ≡ x → Fresh r → Fresh (look_step x r q key)
    look_fresh (ready bs) r key e f = λ z. let y : ◌≡◌ {A = ℕ} 0 1 = cc in omega arith
    look_fresh missing r key e f = f
    look_fresh absent r key e f = λ z. let y : ◌≡◌ {A = ℕ} 0 1 = cc in omega arith
    look_fresh stale r key e f = λ z. fresh key e

    key_fresh : (m : Option TileKey) (r : Run) → Fresh r → Fresh (key_step m at r q)
    key_fresh None r f = f
    key_fresh (Some key) r f = look_fresh (at key) r key refl f

    step_fresh : (end : Ending) (m : Option TileKey) (r : Run) → Fresh r → Fresh (run_step end m at r q)
    step_fresh Ending.All m r f = key_fresh m r f
    step_fresh (Ending.Need key) m r f = f
    step_fresh Ending.Stale m r f = f

    run_fresh : (near : NearKeys) (k : ℕ) → Fresh (run_to at near q k)
    unfolding run_to
    run_fresh near k =
        up_keeps (λ (r : Run) (i : ℕ). run_step r.end (key_at near i) at r q) no_run Fresh k (λ z. let y : ◌≡◌ {A = ℕ} 0 1 = cc in omega arith)
        (λ (i : ℕ) (below : i < k) (r : Run). step_fresh r.end (key_at near i) r)

  pub match_accepted : (m : Matcher) (h : Header) (fix : Point) (heading : Heading) (k : Refusal) → (Gather.update_over at m h fix heading).answer ≡ Err k → ⊥
  unfolding Gather.update_over
  match_accepted m h fix heading k e =
      let r = run_over at m h fix heading in by r.end r.kept (run_fresh (query_of m h fix heading) (near_of h fix) 4) e
    where
      some : (x : Option Matched) → Gather.outcome x ≡ Err k → ⊥
      some None e = let y : ◌≡◌ {A = ℕ} 0 1 = cc in omega arith
      some (Some f) e = let y : ◌≡◌ {A = ℕ} 0 1 = cc in omega arith

      by : (end : Ending) (s : Keeping.Kept) → (end ≡ Ending.Stale → ⊥) → (Gather.matching_by end s m heading).answer ≡ Err k → ⊥
      by Ending.All s f e = some (Settle.matched m s heading).current e
      by (Ending.Need key) s f e = let y : ◌≡◌ {A = ℕ} 0 1 = cc in omega arith
      by Ending.Stale s f e = f refl

-- ---- the match that a match leaves was found, or there before

matcher_within : (at : TileKey → Look) (m : Matcher) (h : Header) → Accepted at h → (fix : Point) (heading : Heading) (f : Matched)
    → (Gather.update_over at m h fix heading).matcher.current ≡ Some f → FoundIn at h f ⊎ (m.current ≡ Some f)
unfolding Gather.update_over
matcher_within at m h accepted fix heading f e = by (run_over at m h fix heading).end (run_over at m h fix heading).kept refl refl e
  where
    by : (end : Ending) (k : Keeping.Kept) → (run_over at m h fix heading).end ≡ end → (run_over at m h fix heading).kept ≡ k
        → (Gather.matching_by end k m heading).matcher.current ≡ Some f → FoundIn at h f ⊎ (m.current ≡ Some f)
    by Ending.All k q r e = update_within at m h accepted fix heading f (rw (q, r) (ap Gather.outcome e))
    by (Ending.Need key) k q r e = inr e
    by Ending.Stale k q r e = inr e

-- a road that ended by 6 or 10
abbrev pub is_again : Shown → Bool
is_again Shows.nothing = false
is_again (Shows.matched m) = false
is_again (Shows.unmatched m r) = false
is_again (Shows.published r) = false
is_again (Shows.again k m) = true
is_again (Shows.emptied m r) = false
is_again (Shows.updated a m) = false
is_again (Shows.predicted a samples behind) = false
is_again Shows.unanswered = false

-- ---- the invariant

-- the current match was found in a tile of the pack
abbrev pub CurrentFits : List ℕ → ℕ → Matcher → Type 0
CurrentFits P n m = (f : Matched) → m.current ≡ Some f → FoundIn (directly n P) (header_of P) f

pub record Stays (P : List ℕ) (n : ℕ) (horizon : Float) (w : World) : Type 0 where
  pub fit : Fit P n horizon w
  pub ok : engine_ok w.engine (length w.arena) ≡ true
  pub long : n * 8192 ≤ length w.arena
  pub found : CurrentFits P n w.engine.follower.matcher

-- no match fits any pack
pub reset_fits : (P : List ℕ) (n : ℕ) → CurrentFits P n Matching.reset
reset_fits P n f e = let y : ◌≡◌ {A = ℕ} 0 1 = cc in absurd (omega arith)

-- ---- a step

module _ (P : List ℕ) (n : ℕ) (horizon : Float) (w : World) (s : Stays P n horizon w) where
  abbrev e₁ : Engine
  e₁ = w.engine

  abbrev c₁ : Cache
  c₁ = e₁.shared.cache

  abbrev h₁ : Header
  h₁ = e₁.shared.header

  module _ (is_ready : e₁.shared.phase ≡ Phase.Ready) where
    parsed : Parsed P h₁
    parsed = rw is_ready at s.fit.shared.header

    fresh_look : (key : TileKey) → look c₁ w.arena h₁.tile key ≡ stale → ⊥
    fresh_look = not_stale P h₁ n c₁ w.arena (given P n parsed s.fit.shared.cache) (parsed_rules P n parsed) s.long

    agrees : Agree (look c₁ w.arena h₁.tile) (directly n P)
    agrees = look_agrees P n c₁ w.arena h₁ parsed s.fit.shared.cache (directly n) (λ Q key z. refl)

    -- a match found at the cache's look lies in a tile of the pack
    found_direct : (f : Matched) → FoundIn (look c₁ w.arena h₁.tile) h₁ f → FoundIn (directly n P) (header_of P) f
    found_direct f x = record {
      bytes = x.bytes;
      looked = agrees f.tile.key (rw x.looked) ∙ x.looked;
      within = x.within;
      grid = rw (header_is parsed) x.grid;
    }

    match_fits : (m : Matcher) (p : Point) (heading : Heading) → CurrentFits P n m
        → CurrentFits P n (Gather.update_over (look c₁ w.arena h₁.tile) m h₁ p heading).matcher
    match_fits m p heading fits f e =
        ⊎_elim (found_direct f) (fits f) (matcher_within (look c₁ w.arena h₁.tile) m h₁ (look_accepted c₁ w.arena h₁) p heading f e)

    -- the start of a road is where it was found
    module _ (found : Matched) (is : e₁.follower.matcher.current ≡ Some found) where
      start_in : FoundIn (directly n P) (header_of P) found
      start_in = s.found found is

      present : look c₁ w.arena h₁.tile found.tile.key ≡ missing → ⊥
      present q =
          let d : directly n P found.tile.key ≡ missing = agrees found.tile.key (rw q) ∙ q in
          let r : directly n P found.tile.key ≡ ready start_in.bytes = start_in.looked in
          let y : ◌≡◌ {A = ℕ} 0 1 = cc in omega arith

      same_bytes : (bs : List ℕ) → look c₁ w.arena h₁.tile found.tile.key ≡ ready bs → bs ≡ start_in.bytes
      same_bytes bs q =
          let d : directly n P found.tile.key ≡ ready bs = agrees found.tile.key (rw q) ∙ q in
          let r : directly n P found.tile.key ≡ ready start_in.bytes = start_in.looked in cc

      abbrev road_there : Predict.Forecast (List TileKey)
      road_there =
          Predict.predict_over (look c₁ w.arena h₁.tile) c₁.pages.count h₁ found e₁.follower.horizon_m (replicate 501 (pos 0)) (replicate 11 (pos 0))

      not_6 : road_there.answer ≡ Ok Roads.Rematch → ⊥
      not_6 =
          road_not_rematch (look c₁ w.arena h₁.tile) c₁.pages.count h₁ found e₁.follower.horizon_m (replicate 501 (pos 0)) (replicate 11 (pos 0))
          start_in.bytes start_in.within present same_bytes

      not_10 : road_there.answer ≡ Err Refusal.BadStart → ⊥
      not_10 =
          road_start_fits (look c₁ w.arena h₁.tile) c₁.pages.count h₁ found e₁.follower.horizon_m (replicate 501 (pos 0)) (replicate 11 (pos 0))
          start_in.bytes start_in.within present same_bytes

      not_12 : road_there.answer ≡ Err Refusal.BadState → ⊥
      not_12 =
          road_not_stale (look c₁ w.arena h₁.tile) fresh_look c₁.pages.count h₁ found e₁.follower.horizon_m (replicate 501 (pos 0))
          (replicate 11 (pos 0))

  -- ---- what a step answers, shows and leaves

  -- an open fetch is one that the state makes
  open_number : is_open c₁.pending ≡ true → number_of_result (open_read e₁) ≡ 12 → ⊥
  open_number o z = by c₁.pending refl o z
    where
      loads : (x : Option Loading) → wants_chunk_of x c₁ ≡ true → number_of_result (chunk_request x) ≡ 12 → ⊥
      loads None q z = true≢false (sym q)
      loads (Some l) q z = omega arith

      by : (x : Pending) → c₁.pending ≡ x → is_open x ≡ true → number_of_result (request_of e₁.shared x) ≡ 12 → ⊥
      by Pending.Nothing q o z = true≢false (sym o)
      by Pending.Header q o z = omega arith
      by (Pending.Entry key) q o z = omega arith
      by Pending.Chunk q o z = loads c₁.loading (open_fits e₁ w.arena s.ok Pending.Chunk q) z

  either_number : (t : Bool) (x y : Stepped) → (number_of_result x.answer ≡ 12 → ⊥) → (number_of_result y.answer ≡ 12 → ⊥) → number_of_result (cond t x y).answer ≡ 12 → ⊥
  either_number true x y p q = p
  either_number false x y p q = q

  match_number : (f : Fix) (x : Result MatchOutcome.Outcome Refusal) → e₁.shared.phase ≡ Phase.Ready → (match_of e₁ w.arena f).answer ≡ x
      → number_of_result (match_ended_by x e₁ (counted e₁.follower) f (match_of e₁ w.arena f)).answer ≡ 12 → ⊥
  unfolding Gather.updated
  match_number f (Ok (Match.Found m)) r q z = omega arith
  match_number f (Ok Match.Nothing) r q z = omega arith
  match_number f (Ok (Match.Need key)) r q z = by (may_ask (counted e₁.follower).due _) z
    where
      by : (t : Bool) → number_of_result (cond t (Ok Status.Working) (Ok Status.Idle)) ≡ 12 → ⊥
      by true z = omega arith
      by false z = omega arith
  match_number f (Err k) r q z = match_accepted (look c₁ w.arena h₁.tile) (fresh_look r) e₁.follower.matcher h₁ _ _ k q

  road_number : (f : Fix) (found : Matched) (x : Result RoadOutcome.Outcome Refusal) → e₁.shared.phase ≡ Phase.Ready → e₁.follower.matcher.current ≡ Some found
      → (road_at e₁ w.arena found).predicted.answer ≡ x
      → number_of_result (road_ended_by x e₁ (counted e₁.follower) f found (road_at e₁ w.arena found)).answer ≡ 12 → ⊥
  unfolding Predict.predicted_in
  road_number f found (Ok (Roads.Road p)) r c q z = omega arith
  road_number f found (Ok (Roads.Need key)) r c q z = omega arith
  road_number f found (Ok Roads.Rematch) r c q z = omega arith
  road_number f found (Err k) r c q z =
      either_number (eqb (number_of k) 10) (ended e₁ _ (rematch (counted e₁.follower)) (Ok Status.Working)) (refused e₁ k) (λ y. omega arith)
      (λ (y : number_of k ≡ 12). not_12 r found c (q ∙ ap Err (bad_state k y))) z

  pub steps_number : {x : Task} {t : Stepped} → Steps e₁ w.arena x t → number_of_result t.answer ≡ 12 → ⊥
  unfolding arrived
  steps_number (Ways.repeats o) z = open_number o z
  steps_number (Ways.fails failed) z = omega arith
  steps_number (Ways.opens p offset len o f r) z = omega arith
  steps_number (Ways.spoils key i r q p) z =
      let at : ready_at c₁.pages key ≡ Some i = rw q at (next_is c₁ key) in
      let passed = kept_passes P h₁ n key c₁ w.arena (given P n (parsed r) s.fit.shared.cache) (parsed_rules P n (parsed r)) s.long i at in
      true≢false (sym passed ∙ p)
  steps_number (Ways.arrives key k r q f) z = omega arith
  steps_number (Ways.rests f q d idle) z = omega arith
  steps_number (Ways.leaves f k o) z = omega arith
  steps_number (Ways.matches f key k o due) z = match_number f (match_of e₁ w.arena f).answer k.ready refl z
  steps_number (Ways.follows f key found k q c) z = road_number f found (road_at e₁ w.arena found).predicted.answer k.ready c refl z

  -- neither by 6 nor by 10
  either_again : (t : Bool) (x y : Shown) → is_again x ≡ false → is_again y ≡ false → is_again (cond t x y) ≡ false
  either_again true x y p q = p
  either_again false x y p q = q

  match_again : (x : Result MatchOutcome.Outcome Refusal) (m : Engine) → is_again (match_shown x e₁ m) ≡ false
  match_again (Ok (Match.Found p)) m = refl
  match_again (Ok Match.Nothing) m = either_again (is_matched e₁.follower.ahead.matched) _ _ refl refl
  match_again (Ok (Match.Need key)) m = refl
  match_again (Err k) m = refl

  road_again : (found : Matched) (r : e₁.shared.phase ≡ Phase.Ready) (c : e₁.follower.matcher.current ≡ Some found) (x : Result RoadOutcome.Outcome Refusal) (m : Engine)
      → (road_there r found c).answer ≡ x → is_again (road_shown x m) ≡ false
  road_again found r c (Ok (Roads.Road p)) m a = refl
  road_again found r c (Ok (Roads.Need key)) m a = refl
  road_again found r c (Ok Roads.Rematch) m a = absurd (not_6 r found c a)
  road_again found r c (Err i) m a = by (eqb (number_of i) 10) refl
    where
      by : (t : Bool) → eqb (number_of i) 10 ≡ t → is_again (cond t (Shows.again 10 m.follower.matcher) Shows.nothing) ≡ false
      by true e = absurd (not_10 r found c (a ∙ ap Err (bad_start i (eqb-true (number_of i) 10 e))))
      by false e = refl

  pub steps_again : {x : Task} {t : Stepped} → Steps e₁ w.arena x t → is_again (task_shown x e₁ w.arena t.engine) ≡ false
  unfolding Predict.predicted_in
  steps_again (Ways.repeats o) = refl
  steps_again (Ways.fails failed) = refl
  steps_again (Ways.opens p offset len o f r) = refl
  steps_again (Ways.spoils key i r q p) = refl
  steps_again (Ways.arrives key j r q f) = refl
  steps_again (Ways.rests f q d idle) = refl
  steps_again (Ways.leaves f v o) = either_again (is_matched e₁.follower.ahead.matched) _ _ refl refl
  steps_again (Ways.matches f key v k due) = match_again (match_of e₁ w.arena f).answer _
  steps_again (Ways.follows f key found v q c) = road_again found v.ready c (road_there v.ready found c).answer _ refl

  -- the match that it leaves was found in a tile of the pack
  either_fits : (t : Bool) (x y : Matcher) → CurrentFits P n x → CurrentFits P n y → CurrentFits P n (cond t x y)
  either_fits true x y p q = p
  either_fits false x y p q = q

  fits_as : {a b : Matcher} → b ≡ a → CurrentFits P n a → CurrentFits P n b
  fits_as e f = subst (CurrentFits P n) (sym e) f

  match_found : (f : Fix) (x : Result MatchOutcome.Outcome Refusal) → e₁.shared.phase ≡ Phase.Ready
      → CurrentFits P n (match_ended_by x e₁ (counted e₁.follower) f (match_of e₁ w.arena f)).engine.follower.matcher
  unfolding Gather.updated
  match_found f (Ok (Match.Found m)) r = fits_as (match_holds (counted e₁.follower) _ f).matcher (match_fits r e₁.follower.matcher _ _ s.found)
  match_found f (Ok Match.Nothing) r = fits_as (match_holds (counted e₁.follower) _ f).matcher (match_fits r e₁.follower.matcher _ _ s.found)
  match_found f (Ok (Match.Need key)) r = fits_as (match_asks_lem (counted e₁.follower) _ key).matcher s.found
  match_found f (Err k) r = s.found

  road_found : (f : Fix) (found : Matched) (r : Predict.After) (x : Result RoadOutcome.Outcome Refusal)
      → CurrentFits P n (road_ended_by x e₁ (counted e₁.follower) f found r).engine.follower.matcher
  unfolding published
  road_found f found r (Ok (Roads.Road p)) = s.found
  road_found f found r (Ok (Roads.Need key)) = fits_as (road_asks_lem (counted e₁.follower) _ f found key).matcher s.found
  road_found f found r (Ok Roads.Rematch) = reset_fits P n
  road_found f found r (Err k) = by (eqb (number_of k) 10)
    where
      by : (t : Bool)
          → CurrentFits P n (cond t (ended e₁ r.predicted.cache (rematch (counted e₁.follower)) (Ok Status.Working)) (refused e₁ k)).engine.follower.matcher
      by true = reset_fits P n
      by false = s.found

  pub steps_found : {x : Task} {t : Stepped} → Steps e₁ w.arena x t → CurrentFits P n t.engine.follower.matcher
  unfolding arrived off_map
  steps_found (Ways.repeats o) = s.found
  steps_found (Ways.fails failed) = s.found
  steps_found (Ways.opens p offset len o f r) = s.found
  steps_found (Ways.spoils key i r q p) = s.found
  steps_found (Ways.arrives key j r q f) = s.found
  steps_found (Ways.rests f q d idle) = fits_as q.matcher s.found
  steps_found (Ways.leaves f v o) = either_fits (is_matched e₁.follower.ahead.matched) _ _ (reset_fits P n) s.found
  steps_found (Ways.matches f key v k due) = match_found f (match_of e₁ w.arena f).answer v.ready
  steps_found (Ways.follows f key found v q c) = road_found f found (road_at e₁ w.arena found) (road_at e₁ w.arena found).predicted.answer
