-- A refused call leaves the words, and the arena, as they were: where the words are no engine's by definition, else since the engine's own refused call leaves the engine (`refused_same` of
-- the engine's states), whose words they are.
use Rattle.refusal.specs.declared.Refusal.{Refusal}
use Rattle.std.specs.Prelude.{Result, Ok, Err}
use Prim.Native.Nat.{ℕ}
use mathlib.Core.Path.{◌≡◌, refl, ap, ◌∙◌}
use mathlib.Core.Bool.{Bool, true, false, cond}
use mathlib.Core.Logic.{◌≢◌}
use mathlib.Core.List.{List}
use native.Mathlib.Omega.{arith}
use Rattle.engine.specs.Calls as Calls
use Rattle.engine.specs.Deliver.{After}
use Rattle.engine.specs.declared.Changed.{Changed}
use Rattle.engine.specs.declared.Fix.{Fix}
use Rattle.engine.specs.declared.Status.{Status}
use Rattle.engine.specs.declared.Stepped.{Stepped}
use Rattle.engine_states.specs.Refused.{is_refused, is_taken}
use Rattle.engine_states.proofs.RefusedSame.{refused_same}
use Rattle.terrain.specs.Host as Host
use Rattle.words.specs.Words.{words, engine_of, accepted}
use Rattle.words.proofs.WordsLaws.{words_engine}

taken_not : (t : Result Unit Refusal) → Host.taken_number t ≢ 0 → is_taken t ≡ false
taken_not (Ok tt) n = absurd (n refl)
taken_not (Err k) n = refl

refused_is : (s : Result Status Refusal) → (Host.status_told s).status ≡ 5 → is_refused s ≡ true
refused_is (Ok Status.Idle) h = absurd (omega (arith, h))
refused_is (Ok Status.Working) h = absurd (omega (arith, h))
refused_is (Ok Status.NoPack) h = absurd (omega (arith, h))
refused_is (Ok Status.OffMap) h = absurd (omega (arith, h))
refused_is (Ok (Status.Fetch o l)) h = absurd (omega (arith, h))
refused_is (Err k) h = refl

module _ (ws : List ℕ) where
  changed_keeps : (c : Changed) (b : Bool) → accepted ws ≡ b → (is_taken c.answer ≡ false → c.engine ≡ engine_of ws)
      → (cond b (Host.changed c) (Host.stays ws)).answer ≢ 0 → (cond b (Host.changed c) (Host.stays ws)).words ≡ ws
  changed_keeps c false e same n = refl
  changed_keeps c true e same n = ap words (same (taken_not c.answer n)) ∙ words_engine ws e

  moved_keeps : (s : Stepped) (b : Bool) → accepted ws ≡ b → (is_refused s.answer ≡ true → s.engine ≡ engine_of ws)
      → (cond b (Host.moved s) (Host.rests ws)).answer.status ≡ 5 → (cond b (Host.moved s) (Host.rests ws)).words ≡ ws
  moved_keeps s false e same h = refl
  moved_keeps s true e same h = ap words (same (refused_is s.answer h)) ∙ words_engine ws e

  pub fix_keeps : (arena : List ℕ) (f : Fix) → (Host.fix ws arena f).answer ≢ 0 → (Host.fix ws arena f).words ≡ ws
  unfolding Host.fix
  fix_keeps arena f n = changed_keeps (Calls.fix (engine_of ws) arena f) (accepted ws) refl ((refused_same (engine_of ws) arena).fix f) n

  pub lost_keeps : (arena : List ℕ) → (Host.lost ws arena).answer ≢ 0 → (Host.lost ws arena).words ≡ ws
  unfolding Host.lost
  lost_keeps arena n = changed_keeps (Calls.lost (engine_of ws) arena) (accepted ws) refl (refused_same (engine_of ws) arena).lost n

  pub reset_keeps : (arena : List ℕ) → (Host.reset ws arena).answer ≢ 0 → (Host.reset ws arena).words ≡ ws
  unfolding Host.reset
  reset_keeps arena n = changed_keeps (Calls.reset (engine_of ws) arena) (accepted ws) refl (refused_same (engine_of ws) arena).reset n

  pub step_keeps : (arena : List ℕ) → (Host.step ws arena).answer.status ≡ 5 → (Host.step ws arena).words ≡ ws
  unfolding Host.step
  step_keeps arena h = moved_keeps (Calls.step (engine_of ws) arena) (accepted ws) refl (refused_same (engine_of ws) arena).step h

  delivered_keeps : (arena : List ℕ) (a : After) (b : Bool) → accepted ws ≡ b → (is_refused a.answer ≡ true → (a.engine ≡ engine_of ws) × (a.arena ≡ arena))
      → (cond b (Host.delivered a) (Host.keeps ws arena)).answer.status ≡ 5
      → ((cond b (Host.delivered a) (Host.keeps ws arena)).words ≡ ws) × ((cond b (Host.delivered a) (Host.keeps ws arena)).arena ≡ arena)
  delivered_keeps arena a false e same h = (refl, refl)
  delivered_keeps arena a true e same h = (ap words (same (refused_is a.answer h)).0 ∙ words_engine ws e, (same (refused_is a.answer h)).1)

  pub deliver_keeps : (arena : List ℕ) (failure : ℕ) (bs : List ℕ) → (Host.deliver ws arena failure bs).answer.status ≡ 5
      → ((Host.deliver ws arena failure bs).words ≡ ws) × ((Host.deliver ws arena failure bs).arena ≡ arena)
  unfolding Host.deliver
  deliver_keeps arena failure bs h =
      delivered_keeps arena (Calls.deliver (engine_of ws) arena failure bs) (accepted ws) refl ((refused_same (engine_of ws) arena).deliver failure bs) h

  pub step_from_keeps : (arena pack : List ℕ) → (Host.step_from ws arena pack).answer.status ≡ 5
      → ((Host.step_from ws arena pack).words ≡ ws) × ((Host.step_from ws arena pack).arena ≡ arena)
  unfolding Host.step_from
  step_from_keeps arena pack h =
      delivered_keeps arena (Calls.step_from (engine_of ws) arena pack) (accepted ws) refl ((refused_same (engine_of ws) arena).step_from pack) h
