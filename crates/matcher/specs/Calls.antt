-- The public functions, each with its refusals: document 01, "Refused". 12, then 8, then for each tile around the fix the late 12 and 5, which
-- is the answer Need with the key.
use Rattle.refusal.specs.declared.Refusal.{Refusal}
use Rattle.matcher.specs.declared.Matched.{Matched}
use Rattle.std.specs.Prelude.{Option, None, Result, Ok, Err, ℕ, ◌&&◌, cond, List, length}
use Rattle.pack.specs.Sector.{rules}
use Rattle.pack.specs.Grid.{is_point}
use Rattle.pack.specs.declared.Header.{Header}
use Rattle.geo.specs.declared.Point.{Point}
use Rattle.geo.specs.Flat.{whole}
use Rattle.cache.specs.declared.Cache.{Cache}
use Rattle.matcher.specs.declared.Heading.{Heading}
use Rattle.matcher.specs.declared.Matcher.{Matcher}
use Rattle.matcher.specs.declared.NearRead.{NearRead}
use Rattle.matcher.specs.declared.Updated.{Updated}
use Rattle.matcher.specs.Near.{no_keys, near_of}
use Rattle.matcher.specs.State.{counts_ok, call_ok, heading_ok, refused}
use Rattle.matcher.specs.Gather.{updated}

-- a point off the grid has none
unfoldable pub nearby : Header → Point → NearRead
nearby h p =
    cond (rules h)
    (cond (is_point p.lat p.lon) (record { answer = Ok tt; near = near_of h p }) (record { answer = Err Refusal.OutOfRange; near = no_keys }))
    (record { answer = Err Refusal.BadState; near = no_keys })

-- `Matcher::default()`
abbrev pub reset : Matcher
reset = record { current = None; challenger = None; misses = 0; run_from_m = whole 0 }

unfoldable pub current : Matcher → Result (Option Matched) Refusal
current m = cond (counts_ok m) (Ok m.current) (Err Refusal.BadState)

-- `update` past number 12's test
abbrev pub update_tested : Matcher → Cache → List ℕ → Header → Point → Heading → Updated
update_tested m c arena h fix heading =
    cond (is_point fix.lat fix.lon && heading_ok heading) (updated m c arena h fix heading) (refused m c Refusal.OutOfRange)

unfoldable pub update : Matcher → Cache → List ℕ → Header → Point → Heading → Updated
update m c arena h fix heading = cond (call_ok m c h (length arena)) (update_tested m c arena h fix heading) (refused m c Refusal.BadState)
