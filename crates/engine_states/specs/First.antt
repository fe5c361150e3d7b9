-- The first step of a new engine, over any arena and with any horizon, asks for the header, and has that read open from then on, where none was. So no
-- code that meets the contracts of `new` and `step` is always Working, always NoPack, or hands its state back: document 01, "These fail".
use Rattle.std.specs.Prelude.{Ok, ℕ, ◌≡◌, List, Float}
use Rattle.cache.specs.declared.Pending.TheVariants as Pending
use Rattle.engine.specs.Calls.{new, step}
use Rattle.engine.specs.declared.Status.TheVariants as Status

pub record FirstStep (arena : List ℕ) (horizon : Float) : Type 0 where
  pub asks : (step (new arena horizon) arena).answer ≡ Ok (Status.Fetch 0 512)
  pub before : (new arena horizon).shared.cache.pending ≡ Pending.Nothing
  pub after : (step (new arena horizon) arena).engine.shared.cache.pending ≡ Pending.Header
