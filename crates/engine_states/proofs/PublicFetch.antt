-- The open fetch, of the public calls: what FetchLaws of crate engine says of the cores holds with number 12's test before each.
use Rattle.std.specs.Prelude.{Ok}
use Prim.Native.Nat.{ℕ}
use mathlib.Core.Path.{◌≡◌}
use mathlib.Core.Bool.{true}
use mathlib.Core.List.{List}
use lib.ListN.{length}
use Rattle.pack.specs.Grid.{is_point}
use Rattle.cache.specs.declared.Pending.TheVariants as Pending
use Rattle.engine.specs.Follow as Followers
use Rattle.engine.specs.declared.Fix.{Fix}
use Rattle.engine.specs.Calls as Calls
use Rattle.engine.specs.State.{engine_ok}
use Rattle.engine.specs.Steps.{stepped}
use Rattle.engine.specs.declared.Engine.{Engine}
use Rattle.engine.specs.declared.Status.TheVariants as Status
use Rattle.engine.proofs.FetchLaws.{after, follows, fixed_by, fix_commutes, lost_commutes, reset_withdraws, fetch_repeats}
use Rattle.engine_states.proofs.EngineKept.{fix_kept, lost_kept}
use Rattle.engine_states.proofs.EngineClosed.{step_ok}

module _ (e : Engine) (arena : List ℕ) (ok : engine_ok e (length arena) ≡ true) where
  -- a fix before a delivery is the same after it
  pub fix_between : (f : Fix) (failure : ℕ) (bs : List ℕ) → is_point f.lat f.lon ≡ true
      → Calls.deliver (Calls.fix e arena f).engine arena failure bs ≡ after (fixed_by f) (Calls.deliver e arena failure bs)
  unfolding Calls.fix Calls.deliver
  fix_between f failure bs here =
      let kept : engine_ok (follows (fixed_by f) e) (length arena) ≡ true = rw (ok, here) at (fix_kept e arena f (length arena) ok) in
      rw (ok, here, kept) (fix_commutes e f arena failure bs)

  pub lost_between : (failure : ℕ) (bs : List ℕ)
      → Calls.deliver (Calls.lost e arena).engine arena failure bs ≡ after Followers.lost (Calls.deliver e arena failure bs)
  unfolding Calls.lost Calls.deliver
  lost_between failure bs =
      let kept : engine_ok (follows Followers.lost e) (length arena) ≡ true = rw ok at (lost_kept e arena (length arena) ok) in
      rw (ok, kept) (lost_commutes e arena failure bs)

  module _ {offset len : ℕ} (none : e.shared.cache.pending ≡ Pending.Nothing) (asked : (Calls.step e arena).answer ≡ Ok (Status.Fetch offset len)) where
    -- a reset after the step is the reset before it
    pub reset_between : Calls.reset (Calls.step e arena).engine arena ≡ Calls.reset e arena
    unfolding Calls.step Calls.reset
    reset_between =
        let asks : (stepped e arena).answer ≡ Ok (Status.Fetch offset len) = rw ok at asked in
        let kept : engine_ok (stepped e arena).engine (length arena) ≡ true = rw ok at (step_ok e arena (length arena) ok) in
        rw (ok, kept) (reset_withdraws e arena none asks)

    -- a step more is the same step
    pub step_again : Calls.step (Calls.step e arena).engine arena ≡ Calls.step e arena
    unfolding Calls.step
    step_again =
        let asks : (stepped e arena).answer ≡ Ok (Status.Fetch offset len) = rw ok at asked in
        let kept : engine_ok (stepped e arena).engine (length arena) ≡ true = rw ok at (step_ok e arena (length arena) ok) in
        rw (ok, kept) (fetch_repeats e arena none asks arena)
