-- "As it was: all" of the refusals that an engine's call can answer, 8, 11 and 12 (document 01, "Refused"): a refused call leaves engine and arena as they
-- were. The accessors hand no engine back. `fix`, `lost`, `reset` and `step` are lent an arena that they can't write.
use Rattle.refusal.specs.declared.Refusal.{Refusal}
use Rattle.std.specs.Prelude.{Result, Ok, Err, ℕ, ◌≡◌, Bool, true, false, List}
use Rattle.engine.specs.Calls as Calls
use Rattle.engine.specs.declared.Engine.{Engine}
use Rattle.engine.specs.declared.Fix.{Fix}
use Rattle.engine.specs.declared.Status.{Status}

abbrev pub is_refused : Result Status Refusal → Bool
is_refused (Err e) = true
is_refused (Ok Status.Idle) = false
is_refused (Ok Status.Working) = false
is_refused (Ok Status.NoPack) = false
is_refused (Ok Status.OffMap) = false
is_refused (Ok (Status.Fetch offset len)) = false

abbrev pub is_taken : Result Unit Refusal → Bool
is_taken (Ok tt) = true
is_taken (Err e) = false

-- of any engine and arena, whether or not 12 names them
pub record RefusedSame (e : Engine) (arena : List ℕ) : Type 0 where
  pub fix : (f : Fix) → is_taken (Calls.fix e arena f).answer ≡ false → (Calls.fix e arena f).engine ≡ e
  pub lost : is_taken (Calls.lost e arena).answer ≡ false → (Calls.lost e arena).engine ≡ e
  pub reset : is_taken (Calls.reset e arena).answer ≡ false → (Calls.reset e arena).engine ≡ e
  pub step : is_refused (Calls.step e arena).answer ≡ true → (Calls.step e arena).engine ≡ e
  pub deliver : (failure : ℕ) (bs : List ℕ) → is_refused (Calls.deliver e arena failure bs).answer ≡ true
      → ((Calls.deliver e arena failure bs).engine ≡ e) × ((Calls.deliver e arena failure bs).arena ≡ arena)
  pub step_from : (pack : List ℕ) → is_refused (Calls.step_from e arena pack).answer ≡ true
      → ((Calls.step_from e arena pack).engine ≡ e) × ((Calls.step_from e arena pack).arena ≡ arena)
