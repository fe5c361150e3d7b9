-- Number 12's test on words, and which fetch a step leaves open: this restates private code (`pages.rt`, `steps.rt`, `calls.rt`). `OpenLaws` says that a step which opens or repeats one does nothing else.
use Rattle.refusal.specs.declared.Refusal.{Refusal}
use Rattle.std.specs.Prelude.{Result, Ok, Err, ℕ, Bool, cond, ◌&&◌, List}
use Rattle.pack.specs.declared.Header.{Header}
use Rattle.pack.specs.declared.TileKey.{TileKey}
use Rattle.cache.specs.Lookups.{next_step}
use Rattle.cache.specs.State.{state_ok, cache_ok}
use Rattle.cache.specs.declared.Cache.{Cache}
use Rattle.cache.specs.declared.Pending.{Pending}
use Rattle.cache.specs.declared.next.Next.{Next}
use Rattle.engine.specs.Plans.{plan_of}
use Rattle.engine.specs.State.{engine_ok}
use Rattle.engine.specs.Steps.{opened}
use Rattle.engine.specs.declared.Engine.{Engine}
use Rattle.engine.specs.declared.plan.Plan.{Plan}
use Rattle.words.specs.declared.steps.Planned.{Planned}
use Rattle.words.specs.Words.{accepted, engine_of, cache_of}

-- words of an engine whose cache's own state number 12 leaves alone
unfoldable pub cache_tested : List ℕ → Bool
cache_tested ws = accepted ws && state_ok (cache_of ws 15)

-- words of an engine, and a call that is given its cache, a header and an arena of `size` bytes, which number 12 leaves alone
unfoldable pub given_tested : List ℕ → Header → ℕ → Bool
given_tested ws h size = accepted ws && cache_ok (cache_of ws 15) h size

-- words of an engine that number 12 leaves alone
unfoldable pub tested : List ℕ → ℕ → Bool
tested ws size = accepted ws && engine_ok (engine_of ws) size

-- towards a tile: its entry or a chunk, none where the cache settles it without a read
abbrev pub opens_next : Next → TileKey → Pending
opens_next Next.Entry key = Pending.Entry key
opens_next (Next.Chunk l) key = Pending.Chunk
opens_next (Next.Ready i) key = Pending.Nothing
opens_next Next.Missing key = Pending.Nothing
opens_next Next.NoPages key = Pending.Nothing

abbrev pub opens_plan : Plan → Cache → Pending
opens_plan Plan.Header c = Pending.Header
opens_plan (Plan.Need key) c = opens_next (next_step c key) key
opens_plan Plan.Rest c = Pending.Nothing
opens_plan Plan.NoPack c = Pending.Nothing
opens_plan (Plan.Match fix) c = Pending.Nothing
opens_plan (Plan.Road fix found) c = Pending.Nothing
opens_plan Plan.Roadless c = Pending.Nothing
opens_plan (Plan.Off fix) c = Pending.Nothing

-- the fetch that is open, else the one that the plan opens
abbrev pub opens_by : Pending → Plan → Cache → Pending
opens_by Pending.Nothing plan c = opens_plan plan c
opens_by Pending.Header plan c = Pending.Header
opens_by (Pending.Entry key) plan c = Pending.Entry key
opens_by Pending.Chunk plan c = Pending.Chunk

unfoldable pub opens : Engine → Pending
opens e = opens_by e.shared.cache.pending (plan_of e) e.shared.cache

-- what a step is to do: leave that fetch open, or work by the plan where there is none
abbrev pub planned_for : Pending → Plan → Planned
planned_for Pending.Nothing plan = Planned.Works plan
planned_for Pending.Header plan = Planned.Opens Pending.Header
planned_for (Pending.Entry key) plan = Planned.Opens (Pending.Entry key)
planned_for Pending.Chunk plan = Planned.Opens Pending.Chunk

-- nothing, where number 12 refuses it
unfoldable pub planned : List ℕ → ℕ → Result Planned Refusal
planned ws size = let e = engine_of ws in cond (tested ws size) (Ok (planned_for (opens e) (plan_of e))) (Err Refusal.BadState)

-- the engine with a fetch open
abbrev pub opened_as : Engine → Pending → Engine
opened_as e pending = (opened e pending).engine
