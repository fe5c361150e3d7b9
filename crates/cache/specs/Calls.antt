-- The public functions, each with its refusals: document 01, "Refused". 12 first, then 11, 9, and the late 12 of a lookup; a refused call
-- leaves state and arena as they were.
use Rattle.std.specs.Prelude.{Option, Some, None}
use Rattle.std.specs.Prelude.{Result, Ok, Err}
use Rattle.refusal.specs.declared.Refusal.{Refusal}
use Rattle.std.specs.Prelude.{ℕ, cond, List, [], length}
use Rattle.pack.specs.Grid.{in_grid, read}
use Rattle.pack.specs.declared.TileKey.{TileKey}
use Rattle.pack.specs.declared.Header.{Header}
use Rattle.cache.specs.declared.Cache.{Cache}
use Rattle.cache.specs.declared.Got.{Got}
use Rattle.cache.specs.declared.Cleared.{Cleared}
use Rattle.cache.specs.Lookups.{got, pages_of, next_step}
use Rattle.cache.specs.State.{cleared, lent_ok, cache_ok}
use Rattle.cache.specs.Loads.{After, over, refused, takes, fetched, stepped, pack_bytes}

-- ---- what is there

unfoldable pub capacity : Cache → List ℕ → Result ℕ Refusal
capacity c arena = cond (lent_ok c (length arena)) (Ok c.pages.count) (Err Refusal.BadState)

unfoldable pub loads : Cache → List ℕ → Result ℕ Refusal
loads c arena = cond (lent_ok c (length arena)) (Ok c.loads) (Err Refusal.BadState)

unfoldable pub pages : Cache → List ℕ → Header → TileKey → Result ℕ Refusal
pages c arena h key =
    cond (cache_ok c h (length arena)) (cond (in_grid h key) (Ok (pages_of c.pages key)) (Err Refusal.OutsideGrid)) (Err Refusal.BadState)

abbrev pub got_nothing : Cache → Refusal → Got
got_nothing c e = record { answer = Err e; cache = c }

unfoldable pub get : Cache → List ℕ → Header → TileKey → Got
get c arena h key =
    cond (cache_ok c h (length arena)) (cond (in_grid h key) (got c arena h.tile key) (got_nothing c Refusal.OutsideGrid)) (got_nothing c Refusal.BadState)

unfoldable pub clear : Cache → List ℕ → Cleared
clear c arena = cond (lent_ok c (length arena)) (record { answer = Ok tt; cache = cleared c }) (record { answer = Err Refusal.BadState; cache = c })

-- ---- bringing tiles in

-- the read that the next step towards the key makes; nothing changes
unfoldable pub fetch : Cache → List ℕ → Header → TileKey → Result (Option (ℕ × ℕ)) Refusal
fetch c arena h key =
    cond (cache_ok c h (length arena)) (cond (in_grid h key) (fetched c (next_step c key) arena h key) (Err Refusal.OutsideGrid)) (Err Refusal.BadState)

-- that step with its read answered, past number 12's test
abbrev pub load_tested : Cache → List ℕ → Header → TileKey → ℕ → List ℕ → After
load_tested c arena h key failure bs =
    cond (takes (next_step c key) h key failure (length bs))
    (cond (in_grid h key) (stepped c (next_step c key) arena h key failure bs) (over (refused c Refusal.OutsideGrid) arena))
    (over (refused c Refusal.NotAsked) arena)

unfoldable pub load : Cache → List ℕ → Header → TileKey → ℕ → List ℕ → After
load c arena h key failure bs = cond (cache_ok c h (length arena)) (load_tested c arena h key failure bs) (over (refused c Refusal.BadState) arena)

-- `load` with the pack's bytes, or with 2 where they pass its end
abbrev pub load_by : Result ℕ Refusal → Cache → List ℕ → Header → TileKey → ℕ → List ℕ → After
load_by (Ok offset) c arena h key n pack = load c arena h key 0 (pack_bytes pack offset n)
load_by (Err e) c arena h key n pack = load c arena h key 2 []

-- what `fetch` tells, done
abbrev pub request_load : Result (Option (ℕ × ℕ)) Refusal → Cache → List ℕ → Header → TileKey → List ℕ → After
request_load (Ok None) c arena h key pack = load c arena h key 0 []
request_load (Err e) c arena h key pack = over (refused c e) arena
request_load (Ok (Some (offset, n))) c arena h key pack = load_by (read pack offset n) c arena h key n pack

-- `fetch`, then `load`
unfoldable pub load_from : Cache → List ℕ → Header → TileKey → List ℕ → After
load_from c arena h key pack = request_load (fetch c arena h key) c arena h key pack
