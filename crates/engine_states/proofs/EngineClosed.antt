-- The theorem of the engine, closed: no public call makes a state that number 12 names out of one that it doesn't, of any engine with its 96
-- slots. The laws of the cache put into those of the engine.
use Prim.Native.Nat.{ℕ}
use mathlib.Core.Path.{◌≡◌}
use mathlib.Core.Bool.{true}
use mathlib.Core.List.{List}
use lib.ListN.{length}
use Rattle.pack.specs.Grid.{in_grid}
use Rattle.pack.specs.declared.Header.{Header}
use Rattle.pack.specs.declared.TileKey.{TileKey}
use Rattle.cache.specs.Lookups.{next_step}
use Rattle.cache.specs.State.{state_ok}
use Rattle.cache.specs.declared.Cache.{Cache}
use Rattle.cache.specs.Loads.{takes, stepped}
use Rattle.engine.specs.Calls as Calls
use Rattle.engine.specs.State.{engine_ok}
use Rattle.engine.specs.declared.Engine.{Engine}
use Rattle.engine_states.proofs.CacheKept.{aged_ok, pending_nothing, pending_header, pending_entry, pending_chunk, cleared_ok, forgot_ok, stepped_count}
use Rattle.engine_states.proofs.CacheSized.{stepped_ok, stepped_size}
use Rattle.engine_states.proofs.EngineKept.{reset_kept, step_kept, deliver_kept}
use Rattle.engine_states.proofs.EngineSized.{Sized, deliver_sized, step_from_kept}

steps : (c : Cache) (arena : List ℕ) (h : Header) (key : TileKey) (failure : ℕ) (bs : List ℕ) → length c.pages.slots ≡ 96 → state_ok c ≡ true
    → takes (next_step c key) h key failure (length bs) ≡ true → in_grid h key ≡ true → state_ok (stepped c (next_step c key) arena h key failure bs).cache ≡ true
steps c arena h key failure bs size ok fits is_in_grid = stepped_ok c arena h key failure bs ok size

pub reset_ok : (e : Engine) (arena : List ℕ) (n : ℕ) → engine_ok e n ≡ true → engine_ok (Calls.reset e arena).engine n ≡ true
reset_ok = reset_kept cleared_ok

pub step_ok : (e : Engine) (arena : List ℕ) (n : ℕ) → engine_ok e n ≡ true → engine_ok (Calls.step e arena).engine n ≡ true
step_ok = step_kept aged_ok pending_header pending_entry pending_chunk forgot_ok

pub deliver_ok : (e : Engine) (arena : List ℕ) (failure : ℕ) (bs : List ℕ) (n : ℕ) → Sized e → engine_ok e n ≡ true
    → engine_ok (Calls.deliver e arena failure bs).engine n ≡ true
deliver_ok = deliver_kept pending_nothing steps stepped_count

pub deliver_size : (e : Engine) (arena : List ℕ) (failure : ℕ) (bs : List ℕ) → Sized e → Sized (Calls.deliver e arena failure bs).engine
deliver_size = deliver_sized (λ c arena h key failure bs size ok. stepped_size c arena h key failure bs ok size)

pub step_from_ok : (n : ℕ) (e : Engine) (arena pack : List ℕ) → Sized e → engine_ok e n ≡ true → engine_ok (Calls.step_from e arena pack).engine n ≡ true
step_from_ok = step_from_kept aged_ok pending_nothing pending_header pending_entry pending_chunk forgot_ok steps stepped_count
