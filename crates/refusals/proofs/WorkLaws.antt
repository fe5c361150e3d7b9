-- What the work of a match, a road and a step is refused with: the late 12 leaves all as it was, 5, 6 and 10 all but clock and ages.
use Rattle.refusal.specs.Refusal.{number_of, number_of_result}
use Rattle.std.specs.Prelude.{Result, Ok, Err}
use Rattle.refusal.specs.declared.Refusal.{Refusal}
use Rattle.std.proofs.Common.{Option, Some, None}
use Prim.Native.Nat.{ℕ, ◌+◌, ◌-◌, ◌<◌, ◌≤◌}
use mathlib.Core.Path.{◌≡◌, refl, sym, ap, ◌∙◌, subst}
use mathlib.Core.Bool.{Bool, true, false, not, cond, true≢false}
use mathlib.Core.List.{List, [], ◌∷◌}
use mathlib.Core.Logic.{◌⊎◌, inl, inr}
use native.Mathlib.Omega.{arith}
use lib.Dec.{eqb, ltb, leb}
use lib.Ieee.{Float}
use lib.IntN.{ℤ, pos}
use lib.ListN.{length, replicate, length-take, length-drop}
use borrow.Author.Tests.{eq-eqb, lt-ltb}
use Rattle.pack.specs.Grid.{in_grid, key_of, read}
use Rattle.pack.proofs.Laws.{read_at}
use Rattle.pack.specs.declared.Header.{Header}
use Rattle.pack.specs.declared.TileKey.{TileKey}
use Rattle.tile.specs.Layout as Layout
use Rattle.geo.specs.Flat.{whole}
use Rattle.geo.specs.declared.Point.{Point}
use Rattle.cache.specs.Direct.{Look, ready, missing, absent, stale, look, look_at, looked, Aged}
use Rattle.cache.specs.Loads.{fetched, chunk_len, pack_bytes}
use Rattle.cache.specs.Lookups.{lands_on, passes, len_at, got_ready, got_at, got, next_step}
use Rattle.cache.specs.Reader.{Reader, plain}
use Rattle.cache.specs.declared.Cache.{Cache}
use Rattle.cache.specs.declared.Loading.{Loading}
use Rattle.cache.specs.declared.Pending.{Pending}
use Rattle.cache.specs.declared.look.Landing.{Landing}
use Rattle.cache.specs.declared.next.Next.{Next}
use Rattle.cache.proofs.Below.{and_right}
use Rattle.cache.proofs.FromLaws.{bytes_left}
use Rattle.cache.proofs.LookLaws.{looked_aged}
use Rattle.matcher.specs.Gather.{cache_after, matching_by, outcome, run_over, update_over, updated}
use Rattle.matcher.specs.Settle.{matched}
use Rattle.matcher.specs.Score.{same_id}
use Rattle.matcher.specs.Numbers.{number_of_outcome as number_of_match}
use Rattle.matcher.specs.declared.Heading.{Heading}
use Rattle.matcher.specs.declared.Kept.{Kept}
use Rattle.matcher.specs.declared.Matched.{Matched}
use Rattle.matcher.specs.declared.Matcher.{Matcher}
use Rattle.matcher.specs.declared.Outcome as MatchOutcome
use Rattle.matcher.specs.declared.Outcome.TheVariants as Found
use Rattle.matcher.specs.declared.Updated.{Updated}
use Rattle.matcher.specs.declared.gather.Ending.{Ending}
use Rattle.predict.specs.Start.{start_ok, place}
use Rattle.predict.specs.Meets.{budget}
use Rattle.predict.specs.Ridden as Ridden
use Rattle.predict.specs.Samples.{pushed}
use Rattle.predict.specs.Walk.{walk_over}
use Rattle.predict.specs.declared.Trip.{Trip}
use Rattle.predict.specs.Predict as Predict
use Rattle.predict.specs.Predict.{Forecast, predicted_in, forecast_over}
use Rattle.predict.specs.Numbers.{number_of_outcome as number_of_road}
use Rattle.predict.specs.declared.Ending as RoadEnding
use Rattle.predict.specs.declared.Ending.TheVariants as RoadEnds
use Rattle.predict.specs.declared.Outcome as RoadOutcome
use Rattle.predict.specs.declared.Outcome.TheVariants as Road
use Rattle.predict.specs.declared.Track.{Track}
use Rattle.predict.specs.declared.Walk.{Walk}
use Rattle.predict.specs.declared.ridden.Behind.{Behind}
use Rattle.engine.specs.Fixes.{place_of}
use Rattle.engine.specs.Calls as Calls
use Rattle.engine.specs.Deliver.{After, over, arrived}
use Rattle.engine.specs.State.{refused, need_ok, reload_limit, engine_ok}
use Rattle.engine.specs.Work.{ended, may_ask, match_ended_by, match_step, road_ended_by, road_step, road_due_by, in_grid_step, at_fix_by, at_fix, worked_by, worked, counted}
use Rattle.engine.specs.Steps.{chunk_request, request_of, repeated, ready_by, started_by, started, stepped_by, stepped}
use Rattle.engine.specs.declared.Engine.{Engine}
use Rattle.engine.specs.declared.Fix.{Fix}
use Rattle.engine.specs.declared.Follower.{Follower}
use Rattle.engine.specs.declared.Phase.{Phase}
use Rattle.engine.specs.declared.Status.{Status}
use Rattle.engine.specs.declared.Stepped.{Stepped}
use Rattle.engine.proofs.NeedLaws.{need_by, need_is}
use Rattle.engine_states.proofs.KeptParts.{apart}
use Rattle.engine_states.proofs.EngineKept.{state_is}
use Rattle.engine_states.proofs.EngineClosed.{step_ok}
use Rattle.engine_states.proofs.RefusedSame.{step_open}
use Rattle.refusal.specs.declared.Refusal.TheVariants.{NotLoaded, NoStart, BadStart, BadState}
use Rattle.refusals.specs.Causes.{◌unless◌, first_of, among, Tests, Works}
use Rattle.refusals.specs.Refusals.{still_passes, is_loaded, is_there, is_same, starts_within, answers, open_fetch}
use Rattle.refusals.proofs.DeliverLaws.{deliver_number}

-- ---- a match

-- 12 is the only refusal of the work
abbrev OnlyStale : Result MatchOutcome.Outcome Refusal → Type 0
OnlyStale (Ok (Found.Found m)) = Unit
OnlyStale (Ok Found.Nothing) = Unit
OnlyStale (Ok (Found.Need key)) = Unit
OnlyStale (Err refusal) = refusal ≡ BadState

current_stale : (x : Option Matched) → OnlyStale (outcome x)
current_stale None = tt
current_stale (Some m) = tt

match_stale : (x : Ending) (k : Kept) (m : Matcher) (heading : Heading) → OnlyStale (matching_by x k m heading).answer
match_stale Ending.All k m heading = current_stale (matched m k heading).current
match_stale (Ending.Need key) k m heading = tt
match_stale Ending.Stale k m heading = refl

module _ (m : Matcher) (c : Cache) (arena : List ℕ) (h : Header) (p : Point) (heading : Heading) where
  updated_stale : OnlyStale (updated m c arena h p heading).answer
  unfolding updated update_over
  updated_stale = let r = run_over (look c arena h.tile) m h p heading in match_stale r.end r.kept m heading

  abbrev MatchWorks : Updated → Type 0
  MatchWorks r =
      Works (12 ∷ 5 ∷ []) (number_of_match r.answer) ((r.matcher ≡ m) × (Aged c r.cache × (number_of_match r.answer ≡ 12 → r.cache ≡ c)))

  abbrev same_aged : Aged c c
  same_aged = record { slots = refl; count = refl; missing = refl; loading = refl; pending = refl; loads = refl }

  found_works : (x : Option Matched) (n : Matcher) (d : Cache) → MatchWorks (record { answer = outcome x; matcher = n; cache = d })
  found_works None n d = record { is = refl; as_it_was = λ some. absurd (omega (arith, some)) }
  found_works (Some f) n d = record { is = refl; as_it_was = λ some. absurd (omega (arith, some)) }

  pub update_works : MatchWorks (updated m c arena h p heading)
  unfolding updated update_over
  update_works = let r = run_over (look c arena h.tile) m h p heading in by r.end r.kept _ (looked_aged arena h.tile r.found c)
    where
      by : (x : Ending) (k : Kept) (d : Cache) → Aged c d
          → MatchWorks (record { answer = (matching_by x k m heading).answer; matcher = (matching_by x k m heading).matcher; cache = cache_after x c d })
      by Ending.All k d a = found_works (matched m k heading).current (matched m k heading) d
      by (Ending.Need key) k d a = record { is = refl; as_it_was = λ some. (refl, (a, λ z. absurd (omega (arith, z)))) }
      by Ending.Stale k d a = record { is = refl; as_it_was = λ some. (refl, (same_aged, λ z. refl)) }

-- ---- a road

abbrev OnlyStart : Result RoadOutcome.Outcome Refusal → Type 0
OnlyStart (Ok (Road.Road p)) = Unit
OnlyStart (Ok (Road.Need key)) = Unit
OnlyStart (Ok Road.Rematch) = Unit
OnlyStart (Err refusal) = (refusal ≡ BadState) ⊎ (refusal ≡ BadStart)

walk_start : (x : RoadEnding.Ending) (w : Walk) (t : Track) (b : Behind) → OnlyStart (Predict.outcome_by x w t b)
walk_start RoadEnds.Going w t b = tt
walk_start (RoadEnds.Stops end) w t b = tt
walk_start (RoadEnds.Need key) w t b = tt
walk_start RoadEnds.Stale w t b = inl refl

module _ (rd : Reader (List TileKey)) (n : ℕ) where
  tile_start : (t s : Bool) (x y z : Forecast (List TileKey)) → OnlyStart x.answer → OnlyStart y.answer → OnlyStart z.answer
      → OnlyStart (cond t (cond s x y) z).answer
  tile_start true true x y z p q r = p
  tile_start true false x y z p q r = q
  tile_start false s x y z p q r = r

  road_start : (trip : Trip) (m : Matched) (forward : Bool) (s : List TileKey) (bs : List ℕ) (samples behind : List ℤ)
      → OnlyStart (Predict.road_over rd n trip m forward s bs samples behind).answer
  unfolding Predict.road_over
  road_start trip m forward s bs samples behind =
      let e = Layout.edge_of bs m.edge in
      let here = place trip.header bs e m in
      let b = Ridden.ridden trip (Predict.leg_of trip.header m e (not forward)) bs (Layout.head_of bs).lon_um m here behind in
      let p = pushed Predict.no_mark samples (whole 0) (pos 0) in
      let t = Predict.track_from here p.mark in
      let r = walk_over rd trip (budget n) (Predict.walk_from m (Predict.leg_of trip.header m e forward)) t s p.heights in
      walk_start r.walk.ending r.walk r.track b.behind

  look_start : (l : Look) (h : Header) (m : Matched) (forward : Bool) (horizon : Float) (s : List TileKey) (samples behind : List ℤ)
      → OnlyStart (Predict.start_look rd n l h m forward horizon s samples behind).answer
  look_start (ready bs) h m forward horizon s samples behind =
      tile_start (same_id (Layout.id_of bs) m.tile) (start_ok bs m) _ _ _
      (road_start (Predict.trip_of h m horizon) m forward (rd.found s m.tile.key) bs samples behind) (inr refl) tt
  look_start missing h m forward horizon s samples behind = tt
  look_start absent h m forward horizon s samples behind = tt
  look_start stale h m forward horizon s samples behind = inl refl

  directed_start : (x : Option Bool) (h : Header) (m : Matched) (horizon : Float) (s : List TileKey) (samples behind : List ℤ)
      → OnlyStart (Predict.directed_over rd n x h m horizon s samples behind).answer
  directed_start None h m horizon s samples behind = tt
  directed_start (Some forward) h m horizon s samples behind = look_start (rd.at s m.tile.key) h m forward horizon s samples behind

module _ (c : Cache) (arena : List ℕ) (h : Header) (m : Matched) (horizon : Float) (samples behind : List ℤ) where
  abbrev at₁ : TileKey → Look
  at₁ = look c arena h.tile

  pub predicted_start : OnlyStart (predicted_in c arena h m horizon samples behind).predicted.answer
  unfolding predicted_in forecast_over
  predicted_start = directed_start (plain at₁) c.pages.count m.forward h m horizon [] samples behind

  abbrev RoadWorks : Result RoadOutcome.Outcome Refusal → Cache → Type 0
  RoadWorks x d = Works (12 ∷ 5 ∷ 6 ∷ 10 ∷ []) (number_of_road x) (Aged c d × (number_of_road x ≡ 12 → d ≡ c))

  pub predict_works : RoadWorks (predicted_in c arena h m horizon samples behind).predicted.answer (predicted_in c arena h m horizon samples behind).predicted.cache
  unfolding predicted_in
  predict_works =
      let f = Predict.predict_over at₁ c.pages.count h m horizon samples behind in
      by f.answer _ predicted_start (looked_aged arena h.tile f.carried c)
    where
      refused_by : (e : Refusal) (d : Cache) → (e ≡ BadState) ⊎ (e ≡ BadStart) → Aged c d → RoadWorks (Err e) (cond (eqb (number_of e) 12) c d)
      refused_by e d (inl q) a = rw q (record {
        is = refl;
        as_it_was = λ some. (record { slots = refl; count = refl; missing = refl; loading = refl; pending = refl; loads = refl }, λ z. refl);
      })
      refused_by e d (inr q) a = rw q (record { is = refl; as_it_was = λ some. (a, λ z. absurd (omega (arith, z))) })

      by : (x : Result RoadOutcome.Outcome Refusal) (d : Cache) → OnlyStart x → Aged c d → RoadWorks x (Predict.cache_after x c d)
      by (Ok (Road.Road p)) d s a = record { is = refl; as_it_was = λ some. absurd (omega (arith, some)) }
      by (Ok (Road.Need key)) d s a = record { is = refl; as_it_was = λ some. (a, λ z. absurd (omega (arith, z))) }
      by (Ok Road.Rematch) d s a = record { is = refl; as_it_was = λ some. (a, λ z. absurd (omega (arith, z))) }
      by (Err e) d s a = refused_by e d s a

  pub predict_uncertain : m.forward ≡ None
      → predicted_in c arena h m horizon samples behind ≡ Predict.untouched (Predict.no_direction c) samples behind
  unfolding predicted_in forecast_over looked
  predict_uncertain q = rw q

  -- ---- the start

  unready : Look → Bool
  unready (ready bs) = false
  unready missing = true
  unready absent = true
  unready stale = true

  got_kept : unready (at₁ m.tile.key) ≡ true → (got c arena h.tile m.tile.key).cache ≡ c
  unfolding got look unready
  got_kept = by (lands_on c m.tile.key)
    where
      run : (i : ℕ) (t : Bool) (bs : List ℕ) → unready (cond t (ready bs) stale) ≡ true → (got_ready t c i).cache ≡ c
      run i true bs e = absurd (true≢false (sym e))
      run i false bs e = refl

      by : (x : Landing) → unready (look_at x c.pages.slots arena h.tile m.tile.key) ≡ true
          → (got_at x c arena h.tile m.tile.key).cache ≡ c
      by Landing.Missing e = refl
      by Landing.Nothing e = refl
      by (Landing.At i) e = run i (passes arena i (len_at c i) m.tile.key h.tile) _ e

  module _ (forward : Bool) where
    abbrev start_at : Look → Forecast (List TileKey)
    start_at l = Predict.start_look (plain at₁) c.pages.count l h m forward horizon [] samples behind

    abbrev left_by : Forecast (List TileKey) → Predict.After
    left_by f = record {
      predicted = record { answer = f.answer; cache = Predict.cache_after f.answer c (looked c arena h.tile f.carried) };
      samples = f.samples;
      behind = f.behind;
    }

    abbrev StartTests : Look → Predict.After → Forecast (List TileKey) → Type 0
    StartTests l r f =
        Tests (BadState unless still_passes l ∷ NotLoaded unless is_loaded l ∷ NoStart unless is_there l ∷ NoStart unless is_same l m ∷ BadStart unless starts_within l m ∷ [])
        (number_of_road r.predicted.answer)
        ((r.predicted.cache ≡ (got c arena h.tile m.tile.key).cache) × ((r.samples ≡ samples) × (r.behind ≡ behind)))
        ((bs : List ℕ) → l ≡ ready bs → f
        ≡ Predict.road_over (plain at₁) c.pages.count (Predict.trip_of h m horizon) m forward (m.tile.key ∷ []) bs samples behind)

    same_bytes : (a b : List ℕ) → ready a ≡ ready b → a ≡ b
    same_bytes a b q = cc

    start_by : (l : Look) → at₁ m.tile.key ≡ l → StartTests l (left_by (start_at l)) (start_at l)
    unfolding first_of looked unready
    start_by stale q = record { is = λ some. refl; as_it_was = λ some. (sym (got_kept (rw q)), (refl, refl)); goes_on = λ none. absurd (omega (arith, none)) }
    start_by absent q = record { is = λ some. refl; as_it_was = λ some. (sym (got_kept (rw q)), (refl, refl)); goes_on = λ none. absurd (omega (arith, none)) }
    start_by missing q = record { is = λ some. refl; as_it_was = λ some. (sym (got_kept (rw q)), (refl, refl)); goes_on = λ none. absurd (omega (arith, none)) }
    start_by (ready bs) q = by (same_id (Layout.id_of bs) m.tile) (start_ok bs m)
      where
        road : List ℕ → Forecast (List TileKey)
        road b = Predict.road_over (plain at₁) c.pages.count (Predict.trip_of h m horizon) m forward (m.tile.key ∷ []) b samples behind

        left : Bool → Bool → Forecast (List TileKey)
        left a b = cond a (cond b (road bs) (Predict.nothing (plain at₁) c.pages.count (Err Refusal.BadStart) (m.tile.key ∷ []) samples behind))
            (Predict.nothing (plain at₁) c.pages.count (Ok Road.Rematch) (m.tile.key ∷ []) samples behind)

        by : (a b : Bool) → Tests (BadState unless true ∷ NotLoaded unless true ∷ NoStart unless true ∷ NoStart unless a ∷ BadStart unless b ∷ [])
            (number_of_road (left a b).answer)
            (((left_by (left a b)).predicted.cache ≡ (got c arena h.tile m.tile.key).cache) × (((left a b).samples ≡ samples) × ((left a b).behind ≡ behind)))
            ((bs₂ : List ℕ) → ready bs ≡ ready bs₂ → left a b ≡ road bs₂)
        by true true = record { is = λ some. absurd (omega (arith, some)); as_it_was = λ some. absurd (omega (arith, some)); goes_on = λ none bs₂ r. ap road (same_bytes bs bs₂ r) }
        by true false = record { is = λ some. refl; as_it_was = λ some. (refl, (refl, refl)); goes_on = λ none. absurd (omega (arith, none)) }
        by false b = record { is = λ some. refl; as_it_was = λ some. (refl, (refl, refl)); goes_on = λ none. absurd (omega (arith, none)) }

    pub predict_start : m.forward ≡ Some forward → StartTests (at₁ m.tile.key) (predicted_in c arena h m horizon samples behind)
        (Predict.predict_over at₁ c.pages.count h m horizon samples behind)
    unfolding predicted_in forecast_over
    predict_start q =
        subst (λ (f : Forecast (List TileKey)). StartTests (at₁ m.tile.key) (left_by f) f)
        (sym (ap (λ (x : Option Bool). Predict.directed_over (plain at₁) c.pages.count x h m horizon [] samples behind) q)) (start_by (at₁ m.tile.key) refl)

-- ---- a step

module _ (e : Engine) (arena : List ℕ) where
  abbrev Late : Stepped → Type 0
  Late s = Works (12 ∷ []) (number_of_result s.answer) (s.engine ≡ e)

  runs : (s : Stepped) → number_of_result s.answer ≡ 0 → Late s
  runs s z = record { is = ap (among (12 ∷ [])) z; as_it_was = λ some. absurd (omega (arith, some, z)) }

  late : Late (refused e Refusal.BadState)
  late = record { is = refl; as_it_was = λ some. refl }

  either : (t : Bool) (x y : Stepped) → Late x → Late y → Late (cond t x y)
  either true x y p q = p
  either false x y p q = q

  asks_number : (t : Bool) → number_of_result (cond t (Ok Status.Working) (Ok Status.Idle)) ≡ 0
  asks_number true = refl
  asks_number false = refl

  module _ (f : Follower) (fix : Fix) where
    match_late : (x : Result MatchOutcome.Outcome Refusal) (u : Updated) → OnlyStale x → Late (match_ended_by x e f fix u)
    match_late (Ok (Found.Found m)) u s = runs (match_ended_by (Ok (Found.Found m)) e f fix u) refl
    match_late (Ok Found.Nothing) u s = runs (match_ended_by (Ok Found.Nothing) e f fix u) refl
    match_late (Ok (Found.Need key)) u s = runs (match_ended_by (Ok (Found.Need key)) e f fix u) (asks_number (may_ask f.due u.cache.pages.count))
    match_late (Err number) u s = rw s late

    road_late : (x : Result RoadOutcome.Outcome Refusal) (found : Matched) (y : Predict.After) → OnlyStart x → Late (road_ended_by x e f fix found y)
    road_late (Ok (Road.Road p)) found y s = runs (road_ended_by (Ok (Road.Road p)) e f fix found y) refl
    road_late (Ok (Road.Need key)) found y s = runs (road_ended_by (Ok (Road.Need key)) e f fix found y) refl
    road_late (Ok Road.Rematch) found y s = runs (road_ended_by (Ok Road.Rematch) e f fix found y) refl
    road_late (Err number) found y (inl q) = rw q late
    road_late (Err number) found y (inr q) = rw q (runs (road_ended_by (Err Refusal.BadStart) e f fix found y) refl)

    due_late : (m : Option Matched) → Late (road_due_by m e arena f fix)
    unfolding road_step
    due_late (Some found) =
        let x = predicted_in e.shared.cache arena e.shared.header found f.horizon_m (replicate 501 (pos 0)) (replicate 11 (pos 0)) in
        road_late x.predicted.answer found x
        (predicted_start e.shared.cache arena e.shared.header found f.horizon_m (replicate 501 (pos 0)) (replicate 11 (pos 0)))
    due_late None = runs (road_due_by None e arena f fix) refl

    grid_late : Late (in_grid_step e arena f fix)
    unfolding match_step
    grid_late =
        let u = updated f.matcher e.shared.cache arena e.shared.header (place_of fix) f.sight.heading in
        either f.due.matching _ _
        (match_late u.answer u (updated_stale f.matcher e.shared.cache arena e.shared.header (place_of fix) f.sight.heading))
        (either f.due.road _ _ (due_late f.matcher.current) (runs (ended e e.shared.cache f (Ok Status.Idle)) refl))

    fix_late : (k : Option TileKey) → Late (at_fix_by k e arena f fix)
    fix_late (Some key) = grid_late
    fix_late None = runs (at_fix_by None e arena f fix) refl

  work_late : (m : Option Fix) (f : Follower) → Late (worked_by m e arena f)
  unfolding at_fix
  work_late None f = runs (worked_by None e arena f) refl
  work_late (Some fix) f = fix_late f fix (key_of e.shared.header fix.lat fix.lon)

  -- the read towards the tile needed, or that it is settled
  next_late : (key : TileKey) (n : Next) → Late (need_by (fetched e.shared.cache n arena e.shared.header key) n e key)
  unfolding arrived
  next_late key (Next.Ready i) = by (passes arena i (len_at e.shared.cache i) key e.shared.header.tile)
    where
      by : (t : Bool) → Late (need_by (cond t (Ok None) (Err Refusal.BadState)) (Next.Ready i) e key)
      by true = runs (need_by (Ok None) (Next.Ready i) e key) refl
      by false = late
  next_late key Next.Missing = runs (need_by (Ok None) Next.Missing e key) refl
  next_late key Next.NoPages = runs (need_by (Ok None) Next.NoPages e key) refl
  next_late key Next.Entry = runs (need_by (fetched e.shared.cache Next.Entry arena e.shared.header key) Next.Entry e key) refl
  next_late key (Next.Chunk l) = runs (need_by (fetched e.shared.cache (Next.Chunk l) arena e.shared.header key) (Next.Chunk l) e key) refl

  module _ (ok : engine_ok e (length arena) ≡ true) where
    need_grid : (key : TileKey) → e.shared.phase ≡ Phase.Ready → e.follower.due.need ≡ Some key → in_grid e.shared.header key ≡ true
    need_grid key on need =
        let known : need_ok e.shared e.follower.due.need ≡ true
        = and_right (leb e.follower.due.reloads (reload_limit e.shared.cache.pages.count)) _ (apart e (length arena) ok).holds.due in
        rw (need, on) at known

    ready_late : e.shared.phase ≡ Phase.Ready → (m : Option TileKey) → e.follower.due.need ≡ m → Late (ready_by m e arena)
    unfolding worked
    ready_late r (Some key) need =
        subst Late (sym (need_is e arena key (need_grid key r need) (state_is e (length arena) ok))) (next_late key (next_step e.shared.cache key))
    ready_late r None need = work_late e.follower.sight.fix (counted e.follower)

    phase_late : (p : Phase) → e.shared.phase ≡ p → Late (started_by p e arena)
    phase_late Phase.Failed q = runs (started_by Phase.Failed e arena) refl
    phase_late Phase.Unread q = runs (started_by Phase.Unread e arena) refl
    phase_late Phase.Ready q = ready_late q e.follower.due.need refl

    chunk_late : (x : Option Loading) → Late (record { answer = chunk_request x; engine = e })
    chunk_late None = late
    chunk_late (Some l) = runs (record { answer = chunk_request (Some l); engine = e }) refl

    open_late : (p : Pending) → Late (stepped_by p e arena)
    unfolding started
    open_late Pending.Nothing = phase_late e.shared.phase refl
    open_late Pending.Header = runs (repeated e Pending.Header) refl
    open_late (Pending.Entry key) = runs (repeated e (Pending.Entry key)) refl
    open_late Pending.Chunk = chunk_late e.shared.cache.loading

    pub step_works : Late (stepped e arena)
    unfolding stepped
    step_works = open_late e.shared.cache.pending

-- ---- a step over a lent pack

-- a fetch that is open asks for some byte
module _ (e : Engine) (size : ℕ) (ok : engine_ok e size ≡ true) where
  chunk_some : (l : Loading) → l.done < l.len → 0 < chunk_len l
  unfolding chunk_len
  chunk_some l left = by (ltb (l.len - l.done) 2048)
    where
      by : (t : Bool) → 0 < cond t (l.len - l.done) 2048
      by true = omega arith
      by false = omega arith

  load_some : (x : Option Loading) (offset len : ℕ) → e.shared.cache.loading ≡ x → chunk_request x ≡ Ok (Status.Fetch offset len) → 0 < len
  load_some None offset len q r = let z : ◌≡◌ {A = ℕ} 0 1 = cc in absurd (omega arith)
  load_some (Some l) offset len q r =
      let is : chunk_len l ≡ len = cc in omega (arith, is, chunk_some l (bytes_left e.shared.cache l (state_is e size ok) q))

  fetch_some : (x : Pending) (offset len : ℕ) → request_of e.shared x ≡ Ok (Status.Fetch offset len) → 0 < len
  fetch_some Pending.Nothing offset len r = let z : ◌≡◌ {A = ℕ} 0 1 = cc in absurd (omega arith)
  fetch_some Pending.Header offset len r = let is : 512 ≡ len = cc in omega (arith, is)
  fetch_some (Pending.Entry key) offset len r = let is : 8 ≡ len = cc in omega (arith, is)
  fetch_some Pending.Chunk offset len r = load_some e.shared.cache.loading offset len refl r

module _ (e : Engine) (arena pack : List ℕ) (ok : engine_ok e (length arena) ≡ true) where
  abbrev n₁ : Engine
  n₁ = (stepped e arena).engine

  step_is : Calls.step e arena ≡ stepped e arena
  unfolding Calls.step
  step_is = rw ok

  next_ok : engine_ok n₁ (length arena) ≡ true
  next_ok = subst (λ (s : Stepped). engine_ok s.engine (length arena) ≡ true) step_is (step_ok e arena (length arena) ok)

  opens : (offset len : ℕ) → (stepped e arena).answer ≡ Ok (Status.Fetch offset len) → open_fetch n₁ ≡ Ok (Status.Fetch offset len)
  opens offset len a =
      subst (λ (s : Stepped). open_fetch s.engine ≡ Ok (Status.Fetch offset len)) step_is (step_open e arena (ap (λ (s : Stepped). s.answer) step_is ∙ a))

  taken : (failure : ℕ) (bs : List ℕ) → answers (open_fetch n₁) failure (length bs) ≡ true → number_of_result (Calls.deliver n₁ arena failure bs).answer ≡ 0
  unfolding Calls.deliver
  taken failure bs a = rw next_ok (deliver_number n₁ arena failure bs next_ok a)

  range_taken : (offset len : ℕ) (x : Result ℕ Refusal) → read pack offset len ≡ x → (stepped e arena).answer ≡ Ok (Status.Fetch offset len)
      → number_of_result (Calls.answered_by x n₁ arena len pack).answer ≡ 0
  range_taken offset len (Ok at) r a =
      let there : (at ≡ offset) × (offset + len ≤ length pack) = read_at pack offset len r in
      let size : length (pack_bytes pack at len) ≡ len = simp (length-take, length-drop) (omega arith) in
      taken 0 (pack_bytes pack at len) (rw (opens offset len a, size) (eq-eqb len len refl))
  range_taken offset len (Err number) r a =
      let some : 0 < len = fetch_some n₁ (length arena) next_ok n₁.shared.cache.pending offset len (opens offset len a) in
      taken 2 [] (rw (opens offset len a) (lt-ltb 0 len some))

  abbrev FromWorks : After → Type 0
  FromWorks r = Works (12 ∷ []) (number_of_result r.answer) ((r.engine ≡ e) × (r.arena ≡ arena))

  ends : (s : Stepped) → Late e arena s → FromWorks (over s arena)
  ends s w = record { is = w.is; as_it_was = λ some. (w.as_it_was some, refl) }

  from_by : (x : Result Status Refusal) → (stepped e arena).answer ≡ x → FromWorks (Calls.step_from_by x (stepped e arena) arena pack)
  unfolding Calls.answered_from
  from_by (Ok (Status.Fetch offset len)) a =
      let z : number_of_result (Calls.answered_by (read pack offset len) n₁ arena len pack).answer ≡ 0 = range_taken offset len (read pack offset len) refl a in
      record { is = ap (among (12 ∷ [])) z; as_it_was = λ some. absurd (omega (arith, some, z)) }
  from_by (Ok Status.Idle) a = ends (stepped e arena) (step_works e arena ok)
  from_by (Ok Status.Working) a = ends (stepped e arena) (step_works e arena ok)
  from_by (Ok Status.NoPack) a = ends (stepped e arena) (step_works e arena ok)
  from_by (Ok Status.OffMap) a = ends (stepped e arena) (step_works e arena ok)
  from_by (Err number) a = ends (stepped e arena) (step_works e arena ok)

  pub step_from_works : FromWorks (Calls.step_from_by (stepped e arena).answer (stepped e arena) arena pack)
  step_from_works = from_by (stepped e arena).answer refl
