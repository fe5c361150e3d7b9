-- The first step of a new engine asks for the header (`new_steps`): no state that 12 names, in phase Unread, with no read open.
use Rattle.refusal.specs.declared.Refusal.{Refusal}
use Prim.Native.Nat.{ℕ}
use mathlib.Core.Path.{◌≡◌, refl, ap}
use mathlib.Core.Bool.{Bool, cond}
use mathlib.Core.List.{List}
use lib.Ieee.{Float}
use Rattle.cache.specs.State as Caches
use Rattle.cache.specs.declared.Pending.TheVariants as Pending
use Rattle.engine.specs.State.{refused}
use Rattle.engine.specs.Steps.{opened, started, stepped}
use Rattle.engine.specs.Calls.{new, step}
use Rattle.engine.specs.declared.Stepped.{Stepped}
use Rattle.engine.proofs.StateLaws.{new_ok}
use Rattle.engine_states.specs.First.{FirstStep}

new_opens : (arena : List ℕ) (horizon : Float) → step (new arena horizon) arena ≡ opened (new arena horizon) Pending.Header
unfolding new Caches.fresh step stepped started
new_opens arena horizon =
    ap (λ (t : Bool). cond t (stepped (new arena horizon) arena) (refused (new arena horizon) Refusal.BadState)) (new_ok arena horizon)

pub new_steps : (arena : List ℕ) (horizon : Float) → FirstStep arena horizon
unfolding new Caches.fresh
new_steps arena horizon = record {
  asks = ap (λ (s : Stepped). s.answer) (new_opens arena horizon);
  before = refl;
  after = ap (λ (s : Stepped). s.engine.shared.cache.pending) (new_opens arena horizon);
}
