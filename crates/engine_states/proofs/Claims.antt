-- The claims of specs/Closed, from where each is proved.
use Rattle.engine_states.specs.Closed.{Closed, Sizes, FirstSteps, RefusedCalls, Between}
use Rattle.engine_states.proofs.EngineClosed.{reset_ok, step_ok, deliver_ok, deliver_size, step_from_ok}
use Rattle.engine_states.proofs.EngineKept.{fix_kept, lost_kept}
use Rattle.engine_states.proofs.EngineSized.{new_sized, fix_sized, lost_sized, reset_sized, step_sized}
use Rattle.engine_states.proofs.FirstStep.{new_steps}
use Rattle.engine_states.proofs.PublicFetch.{fix_between, lost_between, reset_between, step_again}
use Rattle.engine_states.proofs.RefusedSame.{refused_same}

pub closed : Closed
closed = record { fix = fix_kept; lost = lost_kept; reset = reset_ok; step = step_ok; deliver = deliver_ok; step_from = step_from_ok }

pub sizes : Sizes
sizes = record { new = new_sized; fix = fix_sized; lost = lost_sized; reset = reset_sized; step = step_sized; deliver = deliver_size }

pub first_steps : FirstSteps
first_steps = new_steps

pub refused_calls : RefusedCalls
refused_calls = refused_same

pub between : Between
between = record {
  fix = λ e arena f failure bs ok here. fix_between e arena ok f failure bs here;
  lost = λ e arena failure bs ok. lost_between e arena ok failure bs;
  reset = λ e arena offset len ok none asked. reset_between e arena ok none asked;
  step = λ e arena offset len ok none asked. step_again e arena ok none asked;
}
