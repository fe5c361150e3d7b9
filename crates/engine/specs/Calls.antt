-- The public functions, each with its refusals: document 01, "Refused". 12 first; then 8 for a fix, 11 for a delivery; the late 12 of a lookup
-- inside a step. A refused call leaves engine and arena as they were.
use Rattle.refusal.specs.declared.Refusal.TheVariants as Refusal
use Rattle.refusal.specs.declared.Refusal.{Refusal}
use Rattle.std.specs.Prelude.{Option, Some, None, Result, Ok, Err, ℕ, cond, List, [], length, Float}
use Rattle.pack.specs.Grid.{is_point, read}
use Rattle.cache.specs.State as Caches
use Rattle.cache.specs.Loads.{pack_bytes}
use Rattle.engine.specs.State.{no_header}
use Rattle.engine.specs.Publish.{nothing_ahead}
use Rattle.engine.specs.Follow as Followers
use Rattle.engine.specs.declared.Fix.{Fix}
use Rattle.matcher.specs.declared.Heading.{Heading}
use Rattle.engine.specs.declared.Ahead.{Ahead}
use Rattle.engine.specs.declared.Changed.{Changed}
use Rattle.pack.specs.declared.Header.{Header}
use Rattle.engine.specs.declared.Engine.{Engine}
use Rattle.engine.specs.declared.Status.{Status}
use Rattle.engine.specs.declared.Stepped.{Stepped}
use Rattle.engine.specs.State.{unread, refused, unchanged, followed, forgotten, is_ready, engine_ok}
use Rattle.engine.specs.Deliver as Deliver
use Rattle.engine.specs.Deliver.{After, over, delivered}
use Rattle.engine.specs.Steps.{stepped}

abbrev pub told : After → Stepped
told a = Deliver.told a

unfoldable pub new : List ℕ → Float → Engine
new arena horizon = record { shared = unread (Caches.new arena); follower = Followers.fresh horizon }

-- a fix and the loss of fixes act at once, whether or not a fetch is open
unfoldable pub fix : Engine → List ℕ → Fix → Changed
fix e arena f =
    cond (engine_ok e (length arena))
    (cond (is_point f.lat f.lon) (followed e (Followers.fixed e.follower f)) (unchanged e Refusal.OutOfRange))
    (unchanged e Refusal.BadState)

unfoldable pub lost : Engine → List ℕ → Changed
lost e arena = cond (engine_ok e (length arena)) (followed e (Followers.lost e.follower)) (unchanged e Refusal.BadState)

unfoldable pub reset : Engine → List ℕ → Changed
reset e arena = cond (engine_ok e (length arena)) (forgotten e) (unchanged e Refusal.BadState)

-- ---- what is held

unfoldable pub ahead : Engine → List ℕ → Result Ahead Refusal
ahead e arena = cond (engine_ok e (length arena)) (Ok e.follower.ahead) (Err Refusal.BadState)

-- the road that an answer of `ahead` holds; of a refused call an empty one
abbrev pub ahead_in : Result Ahead Refusal → Ahead
ahead_in (Ok a) = a
ahead_in (Err e) = nothing_ahead 0

-- in phase Ready alone
unfoldable pub header : Engine → List ℕ → Result (Option Header) Refusal
header e arena = cond (engine_ok e (length arena)) (Ok (cond (is_ready e.shared.phase) (Some e.shared.header) None)) (Err Refusal.BadState)

-- the header that an answer of `header` holds; where there is none, one whose fields are all 0
abbrev pub header_read : Result (Option Header) Refusal → Header
header_read (Ok (Some h)) = h
header_read (Ok None) = no_header
header_read (Err e) = no_header

abbrev pub heading_of : Heading → Result (Option Float) Refusal
heading_of Heading.Nothing = Ok None
heading_of (Heading.Degrees d) = Ok (Some d)

unfoldable pub heading : Engine → List ℕ → Result (Option Float) Refusal
heading e arena = cond (engine_ok e (length arena)) (heading_of e.follower.sight.heading) (Err Refusal.BadState)

unfoldable pub loads : Engine → List ℕ → Result ℕ Refusal
loads e arena = cond (engine_ok e (length arena)) (Ok e.shared.cache.loads) (Err Refusal.BadState)

unfoldable pub steps : Engine → List ℕ → Result ℕ Refusal
steps e arena = cond (engine_ok e (length arena)) (Ok e.follower.steps) (Err Refusal.BadState)

-- ---- a step

unfoldable pub step : Engine → List ℕ → Stepped
step e arena = cond (engine_ok e (length arena)) (stepped e arena) (refused e Refusal.BadState)

unfoldable pub deliver : Engine → List ℕ → ℕ → List ℕ → After
deliver e arena failure bs = cond (engine_ok e (length arena)) (delivered e arena failure bs) (over (refused e Refusal.BadState) arena)

-- the pack's bytes, or 2 where they pass its end
abbrev pub answered_by : Result ℕ Refusal → Engine → List ℕ → ℕ → List ℕ → After
answered_by (Ok at) e arena len pack = deliver e arena 0 (pack_bytes pack at len)
answered_by (Err refusal) e arena len pack = deliver e arena 2 []

unfoldable pub answered_from : Engine → List ℕ → ℕ → ℕ → List ℕ → After
answered_from e arena offset len pack = answered_by (read pack offset len) e arena len pack

abbrev pub step_from_by : Result Status Refusal → Stepped → List ℕ → List ℕ → After
step_from_by (Ok (Status.Fetch offset len)) s arena pack = answered_from s.engine arena offset len pack
step_from_by (Ok Status.Idle) s arena pack = over s arena
step_from_by (Ok Status.Working) s arena pack = over s arena
step_from_by (Ok Status.NoPack) s arena pack = over s arena
step_from_by (Ok Status.OffMap) s arena pack = over s arena
step_from_by (Err refusal) s arena pack = over s arena

-- a step, and where it fetches, the delivery
unfoldable pub step_from : Engine → List ℕ → List ℕ → After
step_from e arena pack = let s = step e arena in step_from_by s.answer s arena pack
