-- `engine::Engine::step_from` meets its contract: each return by whether the step fetches (`fetches`).
use Rattle.std.specs.Prelude.{Ok}
use Rattle.std.proofs.Common.{◌≡◌, ℕ, List, ap, ◌∙◌}
use Rattle.engine.specs.declared.Engine.{Engine}
use Rattle.engine.specs.declared.Status.{Status}
use Rattle.engine.specs.Calls.{step, answered_from, step_from}
use Rattle.engine.proofs.Engine.step_from.Goals as goal

fetches : (e : Engine) (arena pack : List ℕ) {offset len : ℕ} → (step e arena).answer ≡ Ok (Status.Fetch offset len)
    → step_from e arena pack ≡ answered_from (step e arena).engine arena offset len pack
unfolding step_from
fetches e arena pack told = rw told

pub returns-in-Ok-Fetch : goal.returns-in-Ok-Fetch
returns-in-Ok-Fetch c =
    let args = c.args in
    let told = rw c.step-s.ensures at (c.in-Ok-Fetch.is ∙ ap (λ (status : Status). Ok status) (rw c.in-Ok-Fetch.is at c.in-Ok-Fetch.field-0-is)) in
    let value = rw c.step-s.ensures at c.answered_from.ensures.value in
    let arena_after = rw c.step-s.ensures at c.answered_from.ensures.arena_after in
    record {
      value = rw (fetches args.self args.arena.now args.pack.now told) value;
      arena_after = rw (fetches args.self args.arena.now args.pack.now told) arena_after;
    }
