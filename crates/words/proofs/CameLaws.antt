-- What the answer to a fetch leaves, as words: the pieces that are put, one after the other, give the words of what the engine's own definitions leave (`open_put`, .., `further_left`).
-- Which definition that is, by the tests: number 12 (`deliver_tested`, `deliver_refused`, `step_refused`), a chunk that leaves more to come (`chunk_goes_on`), a read from a lent pack (`read_there`,
-- `read_past`), and what a step over one leaves open (`step_fetches`, `step_works`). The idea of the first: accepted words are an engine's (`words_engine`), and a piece that is put gives
-- the words of that engine with the piece (`SetLaws`).
use Rattle.std.specs.Prelude.{Result, Option, Some, None, Ok, Err}
use Rattle.refusal.specs.declared.Refusal.{Refusal}
use Rattle.std.proofs.Common.{◌≡◌, ℕ, ◌+◌, ◌-◌, ◌%◌, ◌<◌, ◌≤◌, Bool, true, false, cond, ◌&&◌, eqb, ltb, List, [], ◌∷◌, length, get_or, take, drop, sym, refl, ap, ◌∙◌, true≢false, arith, ltb-true, eqb-true}
use Rattle.pack.specs.Grid.{read}
use Rattle.pack.specs.declared.Header.{Header}
use Rattle.pack.specs.declared.TileKey.{TileKey}
use Rattle.pack.proofs.Laws.{and_left, and_right}
use Rattle.cache.specs.Calls.{load_tested}
use Rattle.cache.specs.Loads.{chunk_len, moved}
use Rattle.cache.specs.Loads as Loads
use Rattle.cache.specs.Lookups.{after}
use Rattle.cache.specs.declared.Cache.{Cache}
use Rattle.cache.specs.declared.Loading.{Loading}
use Rattle.cache.specs.declared.Pending.{Pending}
use Rattle.cache.proofs.StepLaws.{chunk_less}
use Rattle.engine.specs.Calls as Engines
use Rattle.engine.specs.Deliver.{over, with_pending, header_failed, needless, loaded, load_failed, part_came, need_came_by, need_came, delivered_by, delivered}
use Rattle.engine.specs.State.{engine_ok, refused}
use Rattle.engine.specs.Steps.{request_of, opened, stepped}
use Rattle.engine.specs.declared.Engine.{Engine}
use Rattle.engine.specs.declared.Phase.{Phase}
use Rattle.engine.specs.declared.Status.{Status}
use Rattle.engine.specs.declared.Stepped.{Stepped}
use Rattle.engine.specs.declared.plan.Plan.{Plan}
use Rattle.engine.proofs.SummaryLaws.{chunk_more}
use Rattle.engine_states.proofs.EngineClosed.{step_ok}
use Rattle.words.specs.Calls as Calls
use Rattle.words.specs.Came as Came
use Rattle.words.specs.declared.steps.Planned.TheVariants as Planned
use Rattle.words.specs.Opens.{tested, planned, opened_as}
use Rattle.words.specs.Put.{put}
use Rattle.words.specs.Words.{from, phase_word, header_words, header_by, loading_words, loading_by, pending_words, cache_words, due_words, due_of, pending_of, cache_of, shared_of, follower_of, words, engine_of, accepted}
use Rattle.words.proofs.OpenLaws.{is_open, closed_step, no_fetch}
use Rattle.words.proofs.SetLaws.{phase_put, header_put_in, cache_put_in, loading_put, pending_put, due_put_in, failures_put, steps_put}
use Rattle.words.proofs.StepLaws.{planned_refused, planned-opens, planned_works, leaves_open}
use Rattle.words.proofs.WordsLaws.{words_engine}

-- ---- what is read

module _ (ws : List ℕ) where
  pub failures_in : (engine_of ws).follower.failures ≡ get_or ws 1147 0 % 256
  unfolding engine_of follower_of
  failures_in = refl

  pub due_in : (engine_of ws).follower.due ≡ due_of ws 603
  unfolding engine_of follower_of
  due_in = refl

  pub loading_in : (engine_of ws).shared.cache.loading ≡ loading_by (from ws 530)
  unfolding engine_of shared_of cache_of
  loading_in = refl

-- ---- pieces that are put

module _ (ws : List ℕ) (h : accepted ws ≡ true) where
  abbrev e₀ : Engine
  e₀ = engine_of ws

  here : ws ≡ words e₀
  here = sym (words_engine ws h)

  abbrev next : List ℕ
  next = after (get_or ws 1149 0) ∷ []

  pub open_put : (p : Pending) → put 536 (pending_words p) ws ≡ words (opened_as e₀ p)
  open_put p = ap (put 536 (pending_words p)) here ∙ pending_put e₀ p

  pub phase_left : (p : Phase) (n : ℕ)
      → put 1147 (n ∷ []) (put 536 (pending_words Pending.Nothing) (put 1 (phase_word p ∷ []) ws)) ≡ words (Came.phased e₀ p e₀.shared.header n)
  phase_left p n =
      ap (λ (r : List ℕ). put 1147 (n ∷ []) (put 536 (pending_words Pending.Nothing) (put 1 (phase_word p ∷ []) r))) here
      ∙ ap (λ (r : List ℕ). put 1147 (n ∷ []) (put 536 (pending_words Pending.Nothing) r)) (phase_put _ p)
      ∙ ap (put 1147 (n ∷ [])) (pending_put _ Pending.Nothing)
      ∙ failures_put _ n

  pub read_left : (a : Header)
      → put 1147 (0 ∷ []) (put 536 (pending_words Pending.Nothing) (put 2 (header_words a) (put 1 (1 ∷ []) ws))) ≡ words (Came.phased e₀ Phase.Ready a 0)
  read_left a =
      ap (λ (r : List ℕ). put 1147 (0 ∷ []) (put 536 (pending_words Pending.Nothing) (put 2 (header_words a) (put 1 (1 ∷ []) r)))) here
      ∙ ap (λ (r : List ℕ). put 1147 (0 ∷ []) (put 536 (pending_words Pending.Nothing) (put 2 (header_words a) r))) (phase_put _ Phase.Ready)
      ∙ ap (λ (r : List ℕ). put 1147 (0 ∷ []) (put 536 (pending_words Pending.Nothing) r)) (header_put_in _ a)
      ∙ ap (put 1147 (0 ∷ [])) (pending_put _ Pending.Nothing)
      ∙ failures_put _ 0

  pub done_left : (c : Cache)
      → put 1149 next (put 1147 (0 ∷ []) (put 603 (due_words (needless (due_of ws 603))) (put 15 (cache_words c) ws))) ≡ words (Came.done e₀ c)
  unfolding engine_of follower_of
  done_left c =
      let due = due_words (needless (due_of ws 603)) in
      ap (λ (r : List ℕ). put 1149 next (put 1147 (0 ∷ []) (put 603 due (put 15 (cache_words c) r)))) here
      ∙ ap (λ (r : List ℕ). put 1149 next (put 1147 (0 ∷ []) (put 603 due r))) (cache_put_in _ c)
      ∙ ap (λ (r : List ℕ). put 1149 next (put 1147 (0 ∷ []) r)) (due_put_in _ (needless (due_of ws 603)))
      ∙ ap (put 1149 next) (failures_put _ 0)
      ∙ steps_put _ (after (get_or ws 1149 0))

  pub more_left : (c : Cache) → put 1149 next (put 15 (cache_words c) ws) ≡ words (Came.more e₀ c)
  unfolding engine_of follower_of
  more_left c =
      ap (λ (r : List ℕ). put 1149 next (put 15 (cache_words c) r)) here
      ∙ ap (put 1149 next) (cache_put_in _ c)
      ∙ steps_put _ (after (get_or ws 1149 0))

  abbrev failures : ℕ
  failures = get_or ws 1147 0 % 256

  pub failed_left : (c : Cache) → ltb failures 7 ≡ true
      → put 1147 ((failures + 1) ∷ []) (put 1149 next (put 15 (cache_words c) ws)) ≡ words (load_failed e₀ c).engine
  unfolding engine_of follower_of load_failed
  failed_left c few =
      rw few
      (ap (λ (r : List ℕ). put 1147 ((failures + 1) ∷ []) (put 1149 next (put 15 (cache_words c) r))) here
      ∙ ap (λ (r : List ℕ). put 1147 ((failures + 1) ∷ []) (put 1149 next r)) (cache_put_in _ c)
      ∙ ap (put 1147 ((failures + 1) ∷ [])) (steps_put _ (after (get_or ws 1149 0)))
      ∙ failures_put _ (failures + 1))

  pub failed_tells : (c : Cache) → ltb failures 7 ≡ true → (load_failed e₀ c).answer ≡ Ok Status.Working
  unfolding engine_of follower_of load_failed
  failed_tells c few = rw few

  pub eighth_tells : (c : Cache) → ltb failures 7 ≡ false → (load_failed e₀ c).answer ≡ Ok Status.NoPack
  unfolding engine_of follower_of load_failed
  eighth_tells c many = rw many

  pub eighth_left : (c : Cache) → ltb failures 7 ≡ false
      → put 1 (2 ∷ []) (put 1147 (8 ∷ []) (put 1149 next (put 15 (cache_words c) ws))) ≡ words (load_failed e₀ c).engine
  unfolding engine_of follower_of load_failed
  eighth_left c many =
      rw many
      (ap (λ (r : List ℕ). put 1 (2 ∷ []) (put 1147 (8 ∷ []) (put 1149 next (put 15 (cache_words c) r)))) here
      ∙ ap (λ (r : List ℕ). put 1 (2 ∷ []) (put 1147 (8 ∷ []) (put 1149 next r))) (cache_put_in _ c)
      ∙ ap (λ (r : List ℕ). put 1 (2 ∷ []) (put 1147 (8 ∷ []) r)) (steps_put _ (after (get_or ws 1149 0)))
      ∙ ap (put 1 (2 ∷ [])) (failures_put _ 8)
      ∙ phase_put _ Phase.Failed)

  pub further_left : (l : Loading) (come : ℕ)
      → put 1149 next (put 536 (pending_words Pending.Nothing) (put 530 (loading_words (Some (Came.load_with l come))) ws)) ≡ words (Came.further e₀ l come)
  unfolding engine_of follower_of
  further_left l come =
      let load = Some (Came.load_with l come) in
      ap (λ (r : List ℕ). put 1149 next (put 536 (pending_words Pending.Nothing) (put 530 (loading_words load) r))) here
      ∙ ap (λ (r : List ℕ). put 1149 next (put 536 (pending_words Pending.Nothing) r)) (loading_put _ load)
      ∙ ap (put 1149 next) (pending_put _ Pending.Nothing)
      ∙ steps_put _ (after (get_or ws 1149 0))

-- ---- the header failed

module _ (e : Engine) (failure : ℕ) where
  pub header_tried : eqb failure 1 ≡ true → ltb e.follower.failures 7 ≡ true
      → header_failed (opened_as e Pending.Header) failure
      ≡ record { answer = Ok Status.Working; engine = Came.phased e Phase.Unread e.shared.header (e.follower.failures + 1) }
  unfolding header_failed
  header_tried missed few = rw (missed, few)

  abbrev fails : Type 0
  fails = header_failed (opened_as e Pending.Header) failure ≡ record { answer = Ok Status.NoPack; engine = Came.phased e Phase.Failed e.shared.header e.follower.failures }

  failed_by : (b d : Bool) → (b && d) ≡ false → eqb failure 1 ≡ b → ltb e.follower.failures 7 ≡ d → fails
  unfolding header_failed
  failed_by false d q missed few = rw missed
  failed_by true false q missed few = rw (missed, few)
  failed_by true true q missed few = absurd (true≢false q)

  pub header_unread : eqb failure 1 ≡ false → fails
  header_unread other = failed_by false (ltb e.follower.failures 7) refl other refl

  pub header_given_up : ltb e.follower.failures 7 ≡ false → eqb failure 1 ≡ true → fails
  header_given_up many missed = failed_by true false refl missed many

-- ---- a part of the needed tile

module _ (ws : List ℕ) (p : Pending) (arena : List ℕ) (failure : ℕ) (bs : List ℕ) where
  abbrev e₁ : Engine
  e₁ = opened_as (engine_of ws) p

  pub none_came : (engine_of ws).follower.due.need ≡ None → need_came e₁ arena failure bs ≡ over (refused e₁ Refusal.NotAsked) arena
  none_came q = ap (λ (k : Option TileKey). need_came_by k e₁ arena failure bs) q

  pub some_came : {key : TileKey} → (engine_of ws).follower.due.need ≡ Some key
      → (let x = load_tested (with_pending (cache_of ws 15) p) arena (header_by (from ws 2)) key failure bs in
      need_came e₁ arena failure bs ≡ over (loaded e₁ (Loads.told x)) x.arena)
  unfolding part_came engine_of shared_of
  some_came q = ap (λ (k : Option TileKey). need_came_by k e₁ arena failure bs) q

-- ---- a chunk that leaves more to come

-- it is part of what is left of its tile
pub tile_less : {m : Option Loading} {l : Loading} → m ≡ Some l → chunk_len l ≤ l.len - l.done
tile_less {m} {l} q = chunk_less l

module _ (e : Engine) (arena bs : List ℕ) (failure : ℕ) (ok : engine_ok (opened_as e Pending.Chunk) (length arena) ≡ true)
    {l : Loading} (loads : e.shared.cache.loading ≡ Some l) (more : Came.is_more l failure (length bs) ≡ true) where
  pub chunk_goes_on : need_came (opened_as e Pending.Chunk) arena failure bs
      ≡ over (record { answer = Ok Status.Working; engine = Came.further e l (l.done + chunk_len l) }) (Loads.put arena l.slot l.done bs)
  unfolding delivered moved
  chunk_goes_on =
      let rest = and_right (eqb failure 0) _ more in
      let zero_is : failure ≡ 0 = eqb-true failure 0 (and_left (eqb failure 0) _ more) in
      let fits : length bs ≡ chunk_len l = eqb-true (length bs) (chunk_len l) (and_left (eqb (length bs) (chunk_len l)) _ rest) in
      let left : l.done + chunk_len l < l.len = ltb-true (l.done + chunk_len l) l.len (and_right (eqb (length bs) (chunk_len l)) _ rest) in
      ap (λ (n : ℕ). need_came (opened_as e Pending.Chunk) arena n bs) zero_is ∙ chunk_more (opened_as e Pending.Chunk) arena bs ok l refl loads fits left

-- ---- the answer, by the fetch

pub by_fetch : (e : Engine) {p q : Pending} → p ≡ q → (arena : List ℕ) (failure : ℕ) (bs : List ℕ)
    → delivered (opened_as e p) arena failure bs ≡ delivered_by q (opened_as e p) arena failure bs
unfolding delivered
by_fetch e {p} r arena failure bs = ap (λ (x : Pending). delivered_by x (opened_as e p) arena failure bs) r

-- ---- a read from a lent pack

module _ (e : Engine) (arena : List ℕ) (offset len : ℕ) (pack : List ℕ) (ok : engine_ok e (length arena) ≡ true) where
  pub read_there : {a : ℕ} → read pack offset len ≡ Ok a → Engines.answered_from e arena offset len pack ≡ delivered e arena 0 (take (a + len - a) (drop a pack))
  unfolding Engines.answered_from Engines.deliver
  read_there {a} there = let long : a + len - a ≡ len = omega arith in rw (there, long, ok)

  pub read_past : {n : Refusal} → read pack offset len ≡ Err n → Engines.answered_from e arena offset len pack ≡ delivered e arena 2 []
  unfolding Engines.answered_from Engines.deliver
  read_past past = rw (past, ok)

-- the read that a fetch asks for, and what follows it
pub fetch_follows : (e : Engine) (p : Pending) (arena pack : List ℕ) {offset len : ℕ} → request_of e.shared p ≡ Ok (Status.Fetch offset len)
    → Engines.step_from_by (opened e p).answer (opened e p) arena pack ≡ Engines.answered_from (opened_as e p) arena offset len pack
fetch_follows e p arena pack q = ap (λ (a : Result Status Refusal). Engines.step_from_by a (opened e p) arena pack) q

-- ---- number 12

-- the fetch of the words themselves
pub open_as_is : (ws : List ℕ) {p : Pending} → p ≡ pending_of (get_or ws 536 0) (get_or ws 537 0) → opened_as (engine_of ws) p ≡ engine_of ws
unfolding engine_of shared_of cache_of
open_as_is ws q = ap (opened_as (engine_of ws)) q

module _ (ws arena : List ℕ) where
  abbrev size : ℕ
  size = length arena

  pub accepted_in : tested ws size ≡ true → accepted ws ≡ true
  unfolding tested
  accepted_in t = and_left (accepted ws) _ t

  pub ok_in : tested ws size ≡ true → engine_ok (engine_of ws) size ≡ true
  unfolding tested
  ok_in t = and_right (accepted ws) _ t

  module _ (failure : ℕ) (bs : List ℕ) where
    deliver_by : (b d : Bool) → accepted ws ≡ b → engine_ok (engine_of ws) size ≡ d → (b && d) ≡ false → Calls.deliver ws arena failure bs ≡ Calls.keeps ws arena
    unfolding Calls.deliver Engines.deliver
    deliver_by false d q r t = rw q
    deliver_by true true q r t = absurd (true≢false t)
    deliver_by true false q r t = rw (q, r) (ap (λ (x : List ℕ). Calls.keeps x arena) (words_engine ws q))

    pub deliver_refused : tested ws size ≡ false → Calls.deliver ws arena failure bs ≡ Calls.keeps ws arena
    unfolding tested
    deliver_refused t = deliver_by (accepted ws) (engine_ok (engine_of ws) size) refl refl t

    pub deliver_tested : tested ws size ≡ true → Calls.deliver ws arena failure bs ≡ Calls.delivered (delivered (engine_of ws) arena failure bs)
    unfolding Calls.deliver Engines.deliver
    deliver_tested t = rw (accepted_in t, ok_in t)

  module _ (pack : List ℕ) where
    step_by : (b d : Bool) → accepted ws ≡ b → engine_ok (engine_of ws) size ≡ d → (b && d) ≡ false → Calls.step_from ws arena pack ≡ Calls.keeps ws arena
    unfolding Calls.step_from Engines.step_from Engines.step
    step_by false d q r t = rw q
    step_by true true q r t = absurd (true≢false t)
    step_by true false q r t = rw (q, r) (ap (λ (x : List ℕ). Calls.keeps x arena) (words_engine ws q))

    pub step_refused : {refusal : Refusal} → planned ws size ≡ Err refusal → (Calls.step_from ws arena pack ≡ Calls.keeps ws arena) × (Refusal.BadState ≡ refusal)
    unfolding tested
    step_refused q =
        let told = planned_refused ws size q in
        (step_by (accepted ws) (engine_ok (engine_of ws) size) refl refl told.0, told.1)

    abbrev goes_on : Stepped → Calls.Delivered
    goes_on s = Calls.delivered (Engines.step_from_by s.answer s arena pack)

    step_tested : tested ws size ≡ true → Calls.step_from ws arena pack ≡ goes_on (stepped (engine_of ws) arena)
    unfolding Calls.step_from Engines.step_from Engines.step
    step_tested t = rw (accepted_in t, ok_in t)

    -- a fetch is open, or opened: its read follows
    pub step_fetches : {p : Pending} → planned ws size ≡ Ok (Planned.Opens p) → Calls.step_from ws arena pack ≡ goes_on (opened (engine_of ws) p)
    step_fetches q = step_tested (planned-opens ws size q).0 ∙ ap goes_on (leaves_open ws arena q)

    -- none is
    pub step_works : {p : Plan} → planned ws size ≡ Ok (Planned.Works p) → Calls.step_from ws arena pack ≡ Calls.delivered (over (stepped (engine_of ws) arena) arena)
    step_works q =
        let told = planned_works ws size q in
        let closed = closed_step (engine_of ws) arena size (ok_in told.0) (ap is_open told.1.0) in
        step_tested told.0 ∙ ap Calls.delivered (no_fetch (stepped (engine_of ws) arena).answer (stepped (engine_of ws) arena) arena pack closed)

  -- number 12 does not name an engine with a fetch that a step leaves open
  pub opened_ok : {p : Pending} → planned ws size ≡ Ok (Planned.Opens p) → engine_ok (opened_as (engine_of ws) p) size ≡ true
  unfolding Engines.step
  opened_ok {p} q =
      let e = engine_of ws in
      let t = (planned-opens ws size q).0 in
      let left : Engines.step e arena ≡ opened e p = ap (λ (b : Bool). cond b (stepped e arena) (refused e Refusal.BadState)) (ok_in t) ∙ leaves_open ws arena q in
      sym (ap (λ (s : Stepped). engine_ok s.engine size) left) ∙ step_ok e arena size (ok_in t)
