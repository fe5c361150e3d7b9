-- What a step on words puts, as the engine's own definitions say it: a fetch opened (`opened-put`), a step that is counted and no more (`rested_put`). Number 12's test on words (`tested_is`), what
-- a step is to do by the summary (`planned_not`, `planned_by`), and what the engine's step does then: it is refused (`step_refused`), leaves a fetch open (`open_is`) or works by the plan
-- (`works_by_plan`, `works_need`).
use Rattle.refusal.specs.declared.Refusal.{Refusal}
use Rattle.std.specs.Prelude.{Ok, Err}
use Rattle.std.proofs.Common.{◌≡◌, ℕ, Bool, true, false, cond, ◌&&◌, List, [], ◌∷◌, length, get_or, sym, refl, ap, ◌∙◌, true≢false, arith}
use mathlib.Core.Bool.{and_assoc}
use Rattle.cache.specs.Lookups.{after}
use Rattle.cache.specs.State.{state_ok}
use Rattle.cache.specs.declared.Pending.{Pending}
use Rattle.pack.proofs.Laws.{and_left, and_right}
use Rattle.engine.specs.Calls as Engines
use Rattle.engine.specs.Plans.{plan_of, done_by}
use Rattle.engine.specs.State.{engine_ok, refused}
use Rattle.engine.specs.Steps.{opened, stepped}
use Rattle.engine.specs.Summaries.{summary_of, passes, plan}
use Rattle.engine.specs.Work.{counted, ended}
use Rattle.engine.specs.declared.Engine.{Engine}
use Rattle.engine.specs.declared.Status.TheVariants as Status
use Rattle.engine.specs.declared.summary.Summary.{Summary}
use Rattle.engine.specs.declared.plan.Plan.{Plan}
use Rattle.pack.specs.declared.TileKey.{TileKey}
use Rattle.engine.proofs.PlanLaws.{plan_step}
use Rattle.engine.proofs.SummaryLaws.{summary_ok}
use Rattle.words.specs.Calls as Calls
use Rattle.words.specs.Calls.{moved, stays}
use Rattle.words.specs.Came.{settled}
use Rattle.words.specs.Opens.{cache_tested, tested, opens_plan, opens_by, opens, planned_for, planned}
use Rattle.words.specs.Put.{put}
use Rattle.words.specs.declared.steps.Planned.TheVariants as Planned
use Rattle.words.specs.Words.{words, engine_of, shared_of, follower_of, cache_of, accepted, pending_words}
use Rattle.words.proofs.OpenLaws.{is_open, closed_pending, closed_plan, opens_step, need_settled}
use Rattle.words.proofs.SetLaws.{pending_put, steps_put}
use Rattle.words.proofs.WordsLaws.{words_engine}

pub tested_is : (ws : List ℕ) (size : ℕ) → tested ws size ≡ (cache_tested ws && passes (summary_of (engine_of ws)) size)
unfolding tested cache_tested engine_of shared_of
tested_is ws size =
    ap (λ (b : Bool). accepted ws && b) (summary_ok (engine_of ws) size)
    ∙ sym (and_assoc (accepted ws) (state_ok (cache_of ws 15)) (passes (summary_of (engine_of ws)) size))

module _ (ws : List ℕ) (h : accepted ws ≡ true) where
  abbrev e₁ : Engine
  e₁ = engine_of ws

  pub opened-put : (p : Pending) → put 536 (pending_words p) ws ≡ words (opened e₁ p).engine
  opened-put p = ap (put 536 (pending_words p)) (sym (words_engine ws h)) ∙ pending_put e₁ p

  steps_in : e₁.follower.steps ≡ get_or ws 1149 0
  unfolding engine_of follower_of
  steps_in = refl

  pub rested_put : put 1149 (after (get_or ws 1149 0) ∷ []) ws ≡ words (ended e₁ e₁.shared.cache (counted e₁.follower) (Ok Status.Idle)).engine
  rested_put =
      ap (λ (k : ℕ). put 1149 (after k ∷ []) ws) (sym steps_in)
      ∙ ap (put 1149 (after e₁.follower.steps ∷ [])) (sym (words_engine ws h))
      ∙ steps_put e₁ (after e₁.follower.steps)

-- ---- what a step is to do

refused_by : (b : Bool) (o : Pending) (q : Plan) {refusal : Refusal} → cond b (Ok (planned_for o q)) (Err Refusal.BadState) ≡ Err refusal
    → (b ≡ false) × (Refusal.BadState ≡ refusal)
refused_by false o q r = (refl, cc)
refused_by true o q r = let z : ◌≡◌ {A = ℕ} 0 1 = cc in absurd (omega arith)

opens_by_lem : (b : Bool) (o p : Pending) (q : Plan) → cond b (Ok (planned_for o q)) (Err Refusal.BadState) ≡ Ok (Planned.Opens p) → (b ≡ true) × ((o ≡ p) × (is_open o ≡ true))
opens_by_lem false o p q r = let z : ◌≡◌ {A = ℕ} 0 1 = cc in absurd (omega arith)
opens_by_lem true Pending.Nothing p q r = let z : ◌≡◌ {A = ℕ} 0 1 = cc in absurd (omega arith)
opens_by_lem true Pending.Header p q r = (refl, (cc, refl))
opens_by_lem true (Pending.Entry key) p q r = (refl, (cc, refl))
opens_by_lem true Pending.Chunk p q r = (refl, (cc, refl))

works_by : (b : Bool) (o : Pending) (q p : Plan) → cond b (Ok (planned_for o q)) (Err Refusal.BadState) ≡ Ok (Planned.Works p) → (b ≡ true) × ((o ≡ Pending.Nothing) × (q ≡ p))
works_by false o q p r = let z : ◌≡◌ {A = ℕ} 0 1 = cc in absurd (omega arith)
works_by true Pending.Nothing q p r = (refl, (refl, cc))
works_by true Pending.Header q p r = let z : ◌≡◌ {A = ℕ} 0 1 = cc in absurd (omega arith)
works_by true (Pending.Entry key) q p r = let z : ◌≡◌ {A = ℕ} 0 1 = cc in absurd (omega arith)
works_by true Pending.Chunk q p r = let z : ◌≡◌ {A = ℕ} 0 1 = cc in absurd (omega arith)

module _ (ws : List ℕ) (size : ℕ) where
  pub planned_not : tested ws size ≡ false → planned ws size ≡ Err Refusal.BadState
  unfolding planned
  planned_not t = rw t

  -- by the summary
  pub planned_by : tested ws size ≡ true → {s : Summary} → s ≡ summary_of (engine_of ws)
      → planned ws size ≡ Ok (planned_for (opens_by s.pending (plan s) (cache_of ws 15)) (plan s))
  unfolding planned opens engine_of shared_of summary_of
  planned_by t q = rw (t, q)

  pub planned_refused : {refusal : Refusal} → planned ws size ≡ Err refusal → (tested ws size ≡ false) × (Refusal.BadState ≡ refusal)
  unfolding planned
  planned_refused q = refused_by (tested ws size) (opens (engine_of ws)) (plan_of (engine_of ws)) q

  pub planned-opens : {p : Pending} → planned ws size ≡ Ok (Planned.Opens p) → (tested ws size ≡ true) × ((opens (engine_of ws) ≡ p) × (is_open (opens (engine_of ws)) ≡ true))
  unfolding planned
  planned-opens {p} q = opens_by_lem (tested ws size) (opens (engine_of ws)) p (plan_of (engine_of ws)) q

  pub planned_works : {p : Plan} → planned ws size ≡ Ok (Planned.Works p) → (tested ws size ≡ true) × ((opens (engine_of ws) ≡ Pending.Nothing) × (plan_of (engine_of ws) ≡ p))
  unfolding planned
  planned_works {p} q = works_by (tested ws size) (opens (engine_of ws)) (plan_of (engine_of ws)) p q

-- ---- words that number 12 leaves alone, and others

module _ (ws : List ℕ) (size : ℕ) (h : tested ws size ≡ true) where
  tested_accepted : accepted ws ≡ true
  unfolding tested
  tested_accepted = and_left (accepted ws) _ h

  tested_ok : engine_ok (engine_of ws) size ≡ true
  unfolding tested
  tested_ok = and_right (accepted ws) _ h

module _ (ws arena : List ℕ) where
  abbrev e₂ : Engine
  e₂ = engine_of ws

  kept_by : (a b : Bool) → accepted ws ≡ a → (a && b) ≡ false → cond a (moved (cond b (stepped e₂ arena) (refused e₂ Refusal.BadState))) (stays ws) ≡ stays ws
  kept_by true true q r = absurd (true≢false r)
  kept_by true false q r = ap (λ (x : List ℕ). record { answer = Err Refusal.BadState; words = x }) (words_engine ws q)
  kept_by false b q r = refl

  pub step_refused : {refusal : Refusal} → planned ws (length arena) ≡ Err refusal → (Calls.step ws arena ≡ stays ws) × (Refusal.BadState ≡ refusal)
  unfolding tested Calls.step Engines.step
  step_refused q =
      let told = planned_refused ws (length arena) q in
      (kept_by (accepted ws) (engine_ok e₂ (length arena)) refl told.0, told.1)

  step_is : tested ws (length arena) ≡ true → Calls.step ws arena ≡ moved (stepped e₂ arena)
  unfolding Calls.step Engines.step
  step_is h = rw (tested_accepted ws (length arena) h, tested_ok ws (length arena) h)

  -- a step that leaves the fetch p open
  pub open_accepted : {p : Pending} → planned ws (length arena) ≡ Ok (Planned.Opens p) → accepted ws ≡ true
  open_accepted q = tested_accepted ws (length arena) (planned-opens ws (length arena) q).0

  pub leaves_open : {p : Pending} → planned ws (length arena) ≡ Ok (Planned.Opens p) → stepped e₂ arena ≡ opened e₂ p
  leaves_open q =
      let told = planned-opens ws (length arena) q in
      opens_step e₂ arena (length arena) (tested_ok ws (length arena) told.0) told.1.1 ∙ ap (opened e₂) told.1.0

  pub open_is : {p : Pending} → planned ws (length arena) ≡ Ok (Planned.Opens p) → Calls.step ws arena ≡ moved (opened e₂ p)
  open_is q = step_is (planned-opens ws (length arena) q).0 ∙ ap moved (leaves_open q)

  -- a step that opens none does what its plan says
  module _ {p : Plan} (q : planned ws (length arena) ≡ Ok (Planned.Works p)) where
    works_ok : engine_ok e₂ (length arena) ≡ true
    works_ok = tested_ok ws (length arena) (planned_works ws (length arena) q).0

    pub works_accepted : accepted ws ≡ true
    works_accepted = tested_accepted ws (length arena) (planned_works ws (length arena) q).0

    pub works_is : Calls.step ws arena ≡ moved (stepped e₂ arena)
    works_is = step_is (planned_works ws (length arena) q).0

    works_plan : plan_of e₂ ≡ p
    works_plan = (planned_works ws (length arena) q).1.1

    works_closed : is_open (opens e₂) ≡ false
    works_closed = ap is_open (planned_works ws (length arena) q).1.0

    opens_none : is_open (opens_plan p e₂.shared.cache) ≡ false
    opens_none = sym (ap (λ (x : Plan). is_open (opens_plan x e₂.shared.cache)) works_plan) ∙ closed_plan e₂ works_closed

    -- the header opens a fetch
    pub no_header : p ≡ Plan.Header → true ≡ false
    no_header r = sym (ap (λ (x : Plan). is_open (opens_plan x e₂.shared.cache)) r) ∙ opens_none

    pub works_by_plan : {x : Plan} → p ≡ x → stepped e₂ arena ≡ done_by x e₂ arena
    works_by_plan r = plan_step e₂ arena (closed_pending e₂ works_closed) ∙ ap (λ (x : Plan). done_by x e₂ arena) (works_plan ∙ r)

    -- the needed tile is settled
    pub works_need : {key : TileKey} → p ≡ Plan.Need key → stepped e₂ arena ≡ settled e₂ arena key
    works_need {key} r =
        works_by_plan r
        ∙ need_settled e₂ arena (length arena) works_ok key (works_plan ∙ r) (sym (ap (λ (x : Plan). is_open (opens_plan x e₂.shared.cache)) r) ∙ opens_none)
