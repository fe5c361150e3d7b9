-- Along every list of fair calls, with an arena as long as its pages: the engine is in no state that 12 names, its match was found in the pack, and so no
-- call is refused with 12 but for a matcher that the caller gives. By the ways that a call goes.
use Rattle.refusal.specs.Refusal.{number_of, number_of_result}
use Rattle.refusal.specs.declared.Refusal.{Refusal}
use Rattle.std.specs.Prelude.{Option, Some, None, Result, Ok, Err}
use Prim.Native.Nat.{ℕ, ◌*◌, ◌≤◌}
use mathlib.Core.Path.{◌≡◌, refl, sym, ap, subst, ◌∙◌}
use mathlib.Core.Bool.{Bool, true, false, ◌&&◌, not, cond, true≢false}
use mathlib.Core.List.{List, [], ◌∷◌}
use native.Mathlib.Omega.{arith}
use lib.Dec.{eqb, ltb}
use lib.Ieee.{Float}
use lib.IntN.{ℤ}
use lib.ListN.{length}
use Rattle.pack.specs.Grid.{is_point, in_grid}
use Rattle.pack.specs.declared.Header.{Header}
use Rattle.pack.specs.declared.TileKey.{TileKey}
use Rattle.geo.specs.declared.Point.{Point}
use Rattle.cache.specs.Direct.{stale, look}
use Rattle.cache.specs.State.{entry_in, cache_ok}
use Rattle.cache.specs.declared.Cache.{Cache}
use Rattle.cache.specs.declared.Progress.{Progress}
use Rattle.cache_lists.specs.Claims.{Parsed}
use Rattle.cache_lists.proofs.Inv.{Inv}
use Rattle.cache_lists.proofs.Steps.{load_is}
use Rattle.cache_lists.proofs.Same.{header_is, kept_ok, given, parsed_rules, open_step, open_call}
use Rattle.matcher.specs.declared.Heading.{Heading}
use Rattle.matcher.specs.declared.Heading.TheVariants as HeadingIs
use Rattle.matcher.specs.declared.Matched.{Matched}
use Rattle.matcher.specs.Calls as Matching
use Rattle.matcher.specs.Gather as Gather
use Rattle.matcher.specs.State as Matchers
use Rattle.matcher.specs.Numbers as MatchNumbers
use Rattle.predict.specs.Numbers as RoadNumbers
use Rattle.matcher.specs.State.{counts_ok, key_ok, call_ok, heading_ok}
use Rattle.matcher.specs.Near.{near_of, no_keys}
use Rattle.matcher.specs.declared.Matcher.{Matcher}
use Rattle.matcher.specs.declared.NearRead.{NearRead}
use Rattle.matcher.specs.declared.Outcome as MatchOutcome
use Rattle.matcher.specs.declared.Outcome.TheVariants as Match
use Rattle.matcher.specs.declared.Updated.{Updated}
use Rattle.predict.specs.Predict as Predict
use Rattle.predict.specs.declared.Outcome as RoadOutcome
use Rattle.predict.specs.declared.Outcome.TheVariants as Roads
use Rattle.engine.specs.Fixes.{is_same_place}
use Rattle.engine.specs.Follow as Followers
use Rattle.engine.specs.declared.Fix.{Fix}
use Rattle.engine.specs.declared.Follower.{Follower}
use Rattle.engine.specs.State as States
use Rattle.engine.specs.State.{unchanged, followed, is_ready, engine_ok}
use Rattle.engine.specs.Deliver as Delivered
use Rattle.engine.specs.Deliver.{After, arrived, header_failed, load_failed, loaded_by}
use Rattle.engine.specs.Steps.{stepped}
use Rattle.engine.specs.Calls as Engines
use Rattle.engine.specs.declared.Changed.{Changed}
use Rattle.engine.specs.declared.Engine.{Engine}
use Rattle.engine.specs.declared.Phase.{Phase}
use Rattle.engine.specs.declared.Stepped.{Stepped}
use Rattle.engine_states.proofs.EngineKept.{fix_kept, lost_kept}
use Rattle.engine_states.proofs.EngineClosed.{reset_ok, step_ok, deliver_ok, step_from_ok}
use Rattle.engine_states.proofs.RoadBounds.{road_not_stale}
use Rattle.direct.proofs.OneNumber.{bad_state}
use Rattle.direct.specs.Lists as Calls
use Rattle.direct.specs.Lists.{World, Call, with_cache, cache_of, number, exec, Along}
use Rattle.direct.specs.Finished.{Shown, task_shown, task_of, step_shown, update_shown, predict_shown, shown}
use Rattle.direct.specs.Direct.{header_of, pack_after}
use Rattle.direct.specs.Claims.{told_of, Fair, AllFair, Blamed, Open}
use Rattle.engine_states.proofs.Ways as Ways
use Rattle.engine_states.proofs.Ways.{Delivers, brought, Lends, entry_is, step_is, deliver_is, lends_is}
use Rattle.direct.proofs.Changes.{update_keeps, predict_keeps}
use Rattle.direct.proofs.Safe.{written_after}
use Rattle.direct.proofs.Beside.{deliver_left}
use Rattle.direct.proofs.Fit.{Fit, fit_after, fit_stepped}
use Rattle.direct.proofs.Sound.{Leaves, stands, touched_leaves, cache_sound, call_sound}
use Rattle.direct.proofs.Opened.{not_stale, match_accepted, is_again, CurrentFits, Stays, reset_fits, steps_number, steps_again, steps_found}

-- ---- a step and a delivery

module _ (P : List ℕ) (n : ℕ) (horizon : Float) (w : World) (s : Stays P n horizon w) where
  abbrev e₁ : Engine
  e₁ = w.engine

  -- the step is not refused at once
  step_runs : Engines.step e₁ w.arena ≡ stepped e₁ w.arena
  unfolding Engines.step
  step_runs = rw s.ok

  step_found : CurrentFits P n (Engines.step e₁ w.arena).engine.follower.matcher
  step_found = subst (λ (x : Stepped). CurrentFits P n x.engine.follower.matcher) (sym step_runs) (steps_found P n horizon w s (step_is e₁ w.arena s.ok))

  step_number : number_of_result (Engines.step e₁ w.arena).answer ≡ 12 → ⊥
  step_number z = steps_number P n horizon w s (step_is e₁ w.arena s.ok) (ap (λ (x : Stepped). number_of_result x.answer) (sym step_runs) ∙ z)

  pub step_again : is_again (step_shown e₁ w.arena) ≡ false
  unfolding step_shown
  step_again =
      rw s.ok (ap (λ (x : Stepped). is_again (task_shown (task_of e₁) e₁ w.arena x.engine)) step_runs ∙ steps_again P n horizon w s (step_is e₁ w.arena s.ok))

  -- the world after it
  stays_stepped : Stays P n horizon (record { engine = (Engines.step e₁ w.arena).engine; arena = w.arena })
  stays_stepped = record {
    fit = fit_stepped P n horizon e₁ w.arena s.fit;
    ok = step_ok e₁ w.arena (length w.arena) s.ok;
    long = s.long;
    found = step_found;
  }

  deliver_runs : (failure : ℕ) (bs : List ℕ) → Engines.deliver e₁ w.arena failure bs ≡ Delivered.delivered e₁ w.arena failure bs
  unfolding Engines.deliver
  deliver_runs failure bs = rw s.ok

  either_number : (t : Bool) (x y : Stepped) → (number_of_result x.answer ≡ 12 → ⊥) → (number_of_result y.answer ≡ 12 → ⊥) → number_of_result (cond t x y).answer ≡ 12 → ⊥
  either_number true x y p q = p
  either_number false x y p q = q

  loaded_number : (x : Result Progress Refusal) (c : Cache) → (number_of_result x ≡ 12 → ⊥) → number_of_result (loaded_by x e₁ c).answer ≡ 12 → ⊥
  unfolding arrived load_failed
  loaded_number (Ok Progress.Done) c f z = omega arith
  loaded_number (Ok Progress.More) c f z = omega arith
  loaded_number (Ok (Progress.Failed k)) c f z = either_number (ltb e₁.follower.failures 7) _ _ (λ y. omega arith) (λ y. omega arith) z
  loaded_number (Err k) c f z = f z

  delivers_number : {failure : ℕ} {bs : List ℕ} {r : After} → Delivers e₁ w.arena failure bs r → number_of_result r.answer ≡ 12 → ⊥
  unfolding header_failed
  delivers_number Ways.refuses z = omega arith
  delivers_number (Ways.loses k o len) z = either_number (eqb k 1 && ltb e₁.follower.failures 7) _ _ (λ y. omega arith) (λ y. omega arith) z
  delivers_number (Ways.parses o y len a) z = omega arith
  delivers_number {failure} {bs} (Ways.brings key b) z =
      let h : Header = e₁.shared.header in
      let parsed : Parsed P h = rw b.ready at s.fit.shared.header in
      loaded_number (brought e₁ w.arena key failure bs).answer _
      (open_step P h n key e₁.shared.cache w.arena (given P n parsed s.fit.shared.cache) (parsed_rules P n parsed) s.long
      (entry_is e₁ w.arena s.ok h (λ y. refl)) (load_is e₁.shared.cache w.arena h key failure bs)) z

  deliver_number : (failure : ℕ) (bs : List ℕ) → number_of_result (Engines.deliver e₁ w.arena failure bs).answer ≡ 12 → ⊥
  deliver_number failure bs z =
      delivers_number (deliver_is e₁ w.arena s.ok failure bs) (ap (λ (x : After). number_of_result x.answer) (sym (deliver_runs failure bs)) ∙ z)

-- ---- the lent-pack form

lent_number : (P : List ℕ) (n : ℕ) (horizon : Float) (w : World) (Q : List ℕ) {r : After} → Stays P n horizon w → Lends w.engine w.arena Q r
    → number_of_result r.answer ≡ 12 → ⊥
lent_number P n horizon w Q s (Ways.plain t) z = step_number P n horizon w s z
lent_number P n horizon w Q s (Ways.asks offset len failure bs a f) z = deliver_number P n horizon _ (stays_stepped P n horizon w s) failure bs z

lent_found : (P : List ℕ) (n : ℕ) (horizon : Float) (w : World) (Q : List ℕ) {r : After} → Stays P n horizon w → Lends w.engine w.arena Q r
    → CurrentFits P n r.engine.follower.matcher
lent_found P n horizon w Q s (Ways.plain t) = step_found P n horizon w s
lent_found P n horizon w Q s (Ways.asks offset len failure bs a f) =
    subst (CurrentFits P n) (sym (deliver_left (Engines.step w.engine w.arena).engine failure bs w.arena).follower.matcher) (step_found P n horizon w s)

-- ---- the invariant after a call

-- the arena stays as long
long_after : (P : List ℕ) (n : ℕ) (horizon : Float) (w : World) (c : Call) → Stays P n horizon w → n * 8192 ≤ length (exec c w).world.arena
long_after P n horizon w c s = rw (written_after w c).size s.long

module _ (P : List ℕ) (n : ℕ) (horizon : Float) (w : World) (s : Stays P n horizon w) where
  abbrev e₂ : Engine
  e₂ = w.engine

  sized : length e₂.shared.cache.pages.slots ≡ 96
  sized = s.fit.shared.cache.inv.pages.size

  either_found : (t : Bool) (x y : Changed) → CurrentFits P n x.engine.follower.matcher → CurrentFits P n y.engine.follower.matcher
      → CurrentFits P n (cond t x y).engine.follower.matcher
  either_found true x y p q = p
  either_found false x y p q = q

  fixed_found : (f : Fix) → CurrentFits P n (Followers.fixed e₂.follower f).matcher
  unfolding Followers.fixed
  fixed_found f = by (is_same_place e₂.follower.sight.fix f) _ s.found
    where
      by : (t : Bool) (g : Follower) → CurrentFits P n g.matcher → CurrentFits P n (cond t e₂.follower g).matcher
      by true g q = s.found
      by false g q = q

  found_after : (c : Call) → CurrentFits (pack_after P c (told_of w c)) n (exec c w).world.engine.follower.matcher
  unfolding exec Engines.fix Engines.lost Engines.reset States.forgotten Followers.lost Followers.reset
  found_after (Calls.fix f) =
      either_found (engine_ok e₂ (length w.arena)) _ _ (either_found (is_point f.lat f.lon) _ _ (fixed_found f) s.found) s.found
  found_after Calls.lost = either_found (engine_ok e₂ (length w.arena)) _ _ (reset_fits P n) s.found
  found_after (Calls.reset Q) = by (engine_ok e₂ (length w.arena))
    where
      left : Bool → Changed
      left t = cond t (States.forgotten e₂) (unchanged e₂ Refusal.BadState)

      by : (t : Bool) → CurrentFits (cond (not (eqb (number_of_result (left t).answer) 0)) P Q) n (left t).engine.follower.matcher
      by true = reset_fits Q n
      by false = s.found
  found_after Calls.step = step_found P n horizon w s
  found_after (Calls.deliver failure bs) = subst (CurrentFits P n) (sym (deliver_left e₂ failure bs w.arena).follower.matcher) s.found
  found_after (Calls.step_from Q) = lent_found P n horizon w Q s (lends_is e₂ w.arena Q)
  found_after (Calls.read r) = s.found
  found_after (Calls.on_cache c) = s.found
  found_after (Calls.nearby h p) = s.found
  found_after (Calls.current m) = s.found
  found_after (Calls.update m h p heading) = s.found
  found_after (Calls.predict h m reach samples behind) = s.found

  -- a direct call over another state of the cache
  cached_ok : (d : Cache) → Inv d → d.pages.count ≡ n → Leaves e₂.shared.cache d → engine_ok (with_cache e₂ d) (length w.arena) ≡ true
  cached_ok d inv count l = cache_sound e₂ d (length w.arena) s.ok inv (count ∙ sym s.fit.shared.cache.count) l

  LeavesOver : Cache → List ℕ → Type 0
  LeavesOver d arena = Leaves e₂.shared.cache d

  ok_after : (c : Call) → Fit (pack_after P c (told_of w c)) n horizon (exec c w).world → engine_ok (exec c w).world.engine (length w.arena) ≡ true
  unfolding exec LeavesOver
  ok_after (Calls.fix f) fit = fix_kept e₂ w.arena f (length w.arena) s.ok
  ok_after Calls.lost fit = lost_kept e₂ w.arena (length w.arena) s.ok
  ok_after (Calls.reset Q) fit = reset_ok e₂ w.arena (length w.arena) s.ok
  ok_after Calls.step fit = step_ok e₂ w.arena (length w.arena) s.ok
  ok_after (Calls.deliver failure bs) fit = deliver_ok e₂ w.arena failure bs (length w.arena) sized s.ok
  ok_after (Calls.step_from Q) fit = step_from_ok (length w.arena) e₂ w.arena Q sized s.ok
  ok_after (Calls.read r) fit = s.ok
  ok_after (Calls.on_cache c) fit = call_sound w c (length w.arena) s.ok s.fit.shared.cache.inv (fit.shared.cache.count ∙ sym s.fit.shared.cache.count)
  ok_after (Calls.nearby h p) fit = s.ok
  ok_after (Calls.current m) fit = s.ok
  ok_after (Calls.update m h p heading) fit =
      cached_ok _ fit.shared.cache.inv fit.shared.cache.count
      (update_keeps LeavesOver (λ c arena i q. touched_leaves e₂.shared.cache c i q) m e₂.shared.cache w.arena h p heading (stands refl refl))
  ok_after (Calls.predict h m reach samples behind) fit =
      cached_ok _ fit.shared.cache.inv fit.shared.cache.count
      (predict_keeps LeavesOver (λ c arena i q. touched_leaves e₂.shared.cache c i q) e₂.shared.cache w.arena h m reach samples behind (stands refl refl))

  pub stays_after : (c : Call) → Fair P w c → Stays (pack_after P c (told_of w c)) n horizon (exec c w).world
  stays_after c fair =
      let fit : Fit (pack_after P c (told_of w c)) n horizon (exec c w).world = fit_after P n horizon w c s.fit fair in
      record { fit = fit; ok = rw (written_after w c).size (ok_after c fit); long = long_after P n horizon w c s; found = found_after c }

  -- ---- a call is accepted

  fix_number : (f : Fix) → number_of_result (Engines.fix e₂ w.arena f).answer ≡ 12 → ⊥
  unfolding Engines.fix
  fix_number f = rw s.ok (by (is_point f.lat f.lon))
    where
      by : (t : Bool) → number_of_result (cond t (followed e₂ (Followers.fixed e₂.follower f)) (unchanged e₂ Refusal.OutOfRange)).answer ≡ 12 → ⊥
      by true z = omega arith
      by false z = omega arith

  lost_number : number_of_result (Engines.lost e₂ w.arena).answer ≡ 12 → ⊥
  unfolding Engines.lost
  lost_number = rw s.ok (λ z. omega arith)

  reset_number : number_of_result (Engines.reset e₂ w.arena).answer ≡ 12 → ⊥
  unfolding Engines.reset States.forgotten
  reset_number = rw s.ok (λ z. omega arith)

  read_number : (r : Calls.Reading) → number (Calls.reading r e₂ w.arena) ≡ 12 → ⊥
  unfolding Engines.ahead Engines.header Engines.heading Engines.loads Engines.steps
  read_number Calls.its_ahead = rw s.ok (λ z. omega arith)
  read_number Calls.its_header = rw s.ok (by (is_ready e₂.shared.phase))
    where
      by : (t : Bool) → number_of_result (Calls.tells_some (Ok (cond {A = Option Header} t (Some e₂.shared.header) None))) ≡ 12 → ⊥
      by true z = omega arith
      by false z = omega arith
  read_number Calls.its_heading = rw s.ok (by e₂.follower.sight.heading)
    where
      by : (x : Heading) → number_of_result (Engines.heading_of x) ≡ 12 → ⊥
      by HeadingIs.Nothing z = omega arith
      by (HeadingIs.Degrees d) z = omega arith
  read_number Calls.its_loads = rw s.ok (λ z. omega arith)
  read_number Calls.its_steps = rw s.ok (λ z. omega arith)

  nearby_number : (h : Header) (p : Point) → Parsed P h → number_of_result (Matching.nearby h p).answer ≡ 12 → ⊥
  unfolding Matching.nearby
  nearby_number h p parsed = rw (parsed_rules P n parsed) (by (is_point p.lat p.lon))
    where
      by : (t : Bool) → number_of_result (cond {A = NearRead} t (record { answer = Ok tt; near = near_of h p })
          (record { answer = Err Refusal.OutOfRange; near = no_keys })).answer ≡ 12 → ⊥
      by true z = omega arith
      by false z = omega arith

  current_number : (m : Matcher) → number_of_result (Matching.current m) ≡ 12 → counts_ok m ≡ false
  unfolding Matching.current
  current_number m = by (counts_ok m)
    where
      by : (t : Bool) → number_of_result (cond {A = Result (Option Matched) Refusal} t (Ok m.current) (Err Refusal.BadState)) ≡ 12 → t ≡ false
      by true z = absurd (omega (arith, z))
      by false z = refl

  -- the header that was read is the pack's
  header_same : e₂.shared.phase ≡ Phase.Ready → e₂.shared.header ≡ header_of P
  header_same z = let parsed : Parsed P e₂.shared.header = rw z at s.fit.shared.header in sym (header_is parsed)

  pub entry_of_pack : entry_in e₂.shared.cache.pending (header_of P) ≡ true
  entry_of_pack = entry_is e₂ w.arena s.ok (header_of P) header_same

  module _ (h : Header) (parsed : Parsed P h) where
    fresh_at : (key : TileKey) → look e₂.shared.cache w.arena h.tile key ≡ stale → ⊥
    fresh_at = not_stale P h n e₂.shared.cache w.arena (given P n parsed s.fit.shared.cache) (parsed_rules P n parsed) s.long

    pub cache_is : (key : TileKey) → cache_ok e₂.shared.cache h (length w.arena) ≡ true
    cache_is key =
        kept_ok P h n key e₂.shared.cache w.arena (given P n parsed s.fit.shared.cache) (parsed_rules P n parsed) s.long
        (entry_is e₂ w.arena s.ok h (λ z. header_same z ∙ (header_is parsed)))

    update_number : (m : Matcher) (p : Point) (heading : Heading) → MatchNumbers.number_of_outcome (Matching.update m e₂.shared.cache w.arena h p heading).answer ≡ 12
        → (counts_ok m && key_ok m.current h) ≡ false
    unfolding Matching.update call_ok Gather.updated
    update_number m p heading =
        rw (cache_is (record { row = 0; col = 0 })) (by (counts_ok m && key_ok m.current h) (is_point p.lat p.lon && heading_ok heading))
      where
        late : (x : Result MatchOutcome.Outcome Refusal) → (Gather.update_over (look e₂.shared.cache w.arena h.tile) m h p heading).answer ≡ x → MatchNumbers.number_of_outcome x ≡ 12 → ⊥
        late (Ok (Match.Found f)) q z = omega arith
        late (Ok Match.Nothing) q z = omega arith
        late (Ok (Match.Need key)) q z = omega arith
        late (Err k) q z = match_accepted (look e₂.shared.cache w.arena h.tile) fresh_at m h p heading k q

        left : Bool → Bool → Updated
        left a b = cond a (cond b (Gather.updated m e₂.shared.cache w.arena h p heading) (Matchers.refused m e₂.shared.cache Refusal.OutOfRange))
            (Matchers.refused m e₂.shared.cache Refusal.BadState)

        by : (a b : Bool) → MatchNumbers.number_of_outcome (left a b).answer ≡ 12 → a ≡ false
        by true true z = absurd (late _ refl z)
        by true false z = absurd (omega arith)
        by false b z = refl

    predict_number : (m : Matched) (reach : Float) (samples behind : List ℤ)
        → RoadNumbers.number_of_outcome (Predict.predict e₂.shared.cache w.arena h m reach samples behind).predicted.answer ≡ 12 → ⊥
    unfolding Predict.predict Predict.predicted_in
    predict_number m reach samples behind = rw (cache_is m.tile.key) (by (in_grid h m.tile.key))
      where
        late : (x : Result RoadOutcome.Outcome Refusal)
            → (Predict.predict_over (look e₂.shared.cache w.arena h.tile) e₂.shared.cache.pages.count h m reach samples behind).answer ≡ x
            → RoadNumbers.number_of_outcome x ≡ 12 → ⊥
        late (Ok (Roads.Road f)) q z = omega arith
        late (Ok (Roads.Need key)) q z = omega arith
        late (Ok Roads.Rematch) q z = omega arith
        late (Err k) q z =
            road_not_stale (look e₂.shared.cache w.arena h.tile) fresh_at e₂.shared.cache.pages.count h m reach samples behind
            (q ∙ ap Err (bad_state k z))

        left : Bool → Predict.After
        left t = cond t (Predict.predicted_in e₂.shared.cache w.arena h m reach samples behind)
            (Predict.untouched (Predict.refused e₂.shared.cache Refusal.OutsideGrid) samples behind)

        by : (t : Bool) → RoadNumbers.number_of_outcome (left t).predicted.answer ≡ 12 → ⊥
        by true z = late _ refl z
        by false z = omega arith

  call_number : (c : Call) → Fair P w c → number (exec c w).answer ≡ 12 → Blamed c
  unfolding exec
  call_number (Calls.fix f) fair = fix_number f
  call_number Calls.lost fair = lost_number
  call_number (Calls.reset Q) fair = reset_number
  call_number Calls.step fair = step_number P n horizon w s
  call_number (Calls.deliver failure bs) fair = deliver_number P n horizon w s failure bs
  call_number (Calls.step_from Q) fair = lent_number P n horizon w Q s (lends_is e₂ w.arena Q)
  call_number (Calls.read r) fair = read_number r
  call_number (Calls.on_cache c) fair = open_call P n (cache_of w) s.fit.shared.cache s.long entry_of_pack c fair
  call_number (Calls.nearby h p) fair = nearby_number h p fair
  call_number (Calls.current m) fair = current_number m
  call_number (Calls.update m h p heading) fair = update_number h fair m p heading
  call_number (Calls.predict h m reach samples behind) fair = predict_number h fair m reach samples behind

  -- ---- and ends neither by 6 nor by 10 inside a step

  either_not : (t : Bool) (x y : Shown) → is_again x ≡ false → is_again y ≡ false → is_again (cond t x y) ≡ false
  either_not true x y p q = p
  either_not false x y p q = q

  update_not : (x : Result MatchOutcome.Outcome Refusal) (m : Matcher) → is_again (update_shown x m) ≡ false
  update_not (Ok (Match.Found f)) m = refl
  update_not (Ok Match.Nothing) m = refl
  update_not (Ok (Match.Need key)) m = refl
  update_not (Err k) m = either_not (eqb (number_of k) 12) _ _ refl refl

  predict_not : (x : Result RoadOutcome.Outcome Refusal) (samples behind : List ℤ) → is_again (predict_shown x samples behind) ≡ false
  predict_not (Ok (Roads.Road p)) samples behind = refl
  predict_not (Ok (Roads.Need key)) samples behind = refl
  predict_not (Ok Roads.Rematch) samples behind = refl
  predict_not (Err k) samples behind = either_not (eqb (number_of k) 12) _ _ refl refl

  call_not : (c : Call) → is_again (shown w c) ≡ false
  unfolding shown
  call_not (Calls.fix f) = refl
  call_not Calls.lost = refl
  call_not (Calls.reset Q) = refl
  call_not Calls.step = step_again P n horizon w s
  call_not (Calls.deliver failure bs) = refl
  call_not (Calls.step_from Q) = step_again P n horizon w s
  call_not (Calls.read r) = refl
  call_not (Calls.on_cache c) = refl
  call_not (Calls.nearby h p) = refl
  call_not (Calls.current m) = refl
  call_not (Calls.update m h p heading) = let u = Matching.update m e₂.shared.cache w.arena h p heading in update_not u.answer u.matcher
  call_not (Calls.predict h m reach samples behind) =
      let x = Predict.predict e₂.shared.cache w.arena h m reach samples behind in predict_not x.predicted.answer x.samples x.behind

  pub open_after : (c : Call) → Fair P w c → Open w c
  open_after c fair = record {
    accepted = call_number c fair;
    matches = λ k m e. true≢false (sym (ap is_again e) ∙ call_not c);
  }

-- ---- a list

pub open_along : (n : ℕ) (horizon : Float) (cs : List Call) (P : List ℕ) (w : World) → Stays P n horizon w → AllFair P cs w → Along Open cs w
unfolding Along AllFair
open_along n horizon [] P w s fair = tt
open_along n horizon (c ∷ cs) P w s fair = (
  open_after P n horizon w s c fair.0,
  open_along n horizon cs (pack_after P c (told_of w c)) (exec c w).world (stays_after P n horizon w s c fair.0) fair.1,
)
