-- What the last chunk of a load leaves, part by part: this restates private code (`step.rt`, `ended`). `EndingLaws` says that the parts are `Loads.ended`.
use Rattle.std.specs.Prelude.{Option}
use Rattle.cache.specs.declared.Loading.{Loading}
use Rattle.std.specs.Prelude.{ℕ, Bool, cond, slice_set}
use Rattle.pack.specs.declared.TileKey.{TileKey}
use Rattle.cache.specs.declared.Pages.{Pages}
use Rattle.cache.specs.declared.Ring.{Ring}
use Rattle.cache.specs.Keys.{forgotten}
use Rattle.cache.specs.Loads.{with_ready, without_run}
use Rattle.cache.specs.Lookups.{after}

-- the run from page `at` on ready, and the most recently used
abbrev pub ready_pages : Pages → ℕ → Pages
ready_pages g at = record { slots = (with_ready g at).slots; used = slice_set g.used at (after g.clock); count = g.count; clock = after g.clock }

abbrev pub ended_pages : Bool → Pages → Option Loading → ℕ → Pages
ended_pages ok g loading at = cond ok (ready_pages g at) (without_run loading g)

abbrev pub ended_ring : Bool → Ring → TileKey → Ring
ended_ring ok ring key = cond ok ring (forgotten ring key)

abbrev pub ended_loads : Bool → ℕ → ℕ
ended_loads ok loads = cond ok (after loads) loads
