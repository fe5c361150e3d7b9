-- The public calls as data, and what a list of them does to the engine and the arena, by the functions' own definitions. Each call gets the
-- state and the arena that the last one left (demand 3). A direct call is one of cache.rs, matcher.rs or predict.rs: where it takes a cache
-- state, that is the engine's, and the rest are its own arguments (document 01).
use Rattle.refusal.specs.declared.Refusal.{Refusal}
use Rattle.refusal.specs.Refusal.{number_of_result}
use Rattle.std.specs.Prelude.{Some, None, Ok, Err, true, false, Option, Result, Bool, ℕ, List, [], ◌∷◌, Float, ℤ}
use Rattle.pack.specs.declared.Header.{Header}
use Rattle.geo.specs.declared.Point.{Point}
use Rattle.cache.specs.State as Caches
use Rattle.cache.specs.declared.Cache.{Cache}
use Rattle.cache_lists.specs.Lists as Cached
use Rattle.cache_lists.specs.Claims as CacheClaims
use Rattle.matcher.specs.declared.Heading.{Heading}
use Rattle.matcher.specs.declared.Matched.{Matched}
use Rattle.matcher.specs.Calls as Matching
use Rattle.matcher.specs.declared.Matcher.{Matcher}
use Rattle.matcher.specs.declared.Outcome as MatchOutcome
use Rattle.matcher.specs.Numbers as Matchers
use Rattle.predict.specs.Predict as Predict
use Rattle.predict.specs.Numbers as Roads
use Rattle.predict.specs.declared.Outcome as RoadOutcome
use Rattle.engine.specs.Follow as Followers
use Rattle.engine.specs.declared.Fix.{Fix}
use Rattle.engine.specs.State.{unread}
use Rattle.engine.specs.Calls as Engines
use Rattle.engine.specs.Deliver.{After}
use Rattle.engine.specs.declared.Changed.{Changed}
use Rattle.engine.specs.declared.Engine.{Engine}
use Rattle.engine.specs.declared.Status.{Status}
use Rattle.engine.specs.declared.Stepped.{Stepped}

-- what the calls work on
pub record World : Type 0 where
  pub engine : Engine
  pub arena : List ℕ

-- what the engine is asked for and changes nothing
pub data Reading : Type 0 where
  its_ahead : Reading
  its_header : Reading
  its_heading : Reading
  its_loads : Reading
  its_steps : Reading

-- a reset names the pack that is read from then on; a delivery has a failure (0: none) and bytes; `step_from` is lent a whole pack
pub data Call : Type 0 where
  fix : Fix → Call
  lost : Call
  reset : List ℕ → Call
  step : Call
  deliver : ℕ → List ℕ → Call
  step_from : List ℕ → Call
  read : Reading → Call
  -- direct calls: of the cache; of the matcher; of the road ahead
  on_cache : Cached.Call → Call
  nearby : Header → Point → Call
  current : Matcher → Call
  update : Matcher → Header → Point → Heading → Call
  predict : Header → Matched → Float → List ℤ → List ℤ → Call

pub data Answer : Type 0 where
  taken : Result Unit Refusal → Answer
  status : Result Status Refusal → Answer
  known : Result Bool Refusal → Answer
  headed : Result (Option Float) Refusal → Answer
  counted : Result ℕ Refusal → Answer
  cached : Cached.Answer → Answer
  around : Result Unit Refusal → Answer
  holding : Result (Option Matched) Refusal → Answer
  matched : Result MatchOutcome.Outcome Refusal → Matcher → Answer
  predicted : Result RoadOutcome.Outcome Refusal → List ℤ → List ℤ → Answer

-- what a call leaves, and what it answers
pub record Done : Type 0 where
  pub world : World
  pub answer : Answer

-- ---- what a call does

abbrev pub same : World → Answer → Done
same w a = record { world = w; answer = a }

abbrev pub changed : World → Changed → Done
changed w c = record { world = record { engine = c.engine; arena = w.arena }; answer = taken c.answer }

abbrev pub stepped : World → Stepped → Done
stepped w s = record { world = record { engine = s.engine; arena = w.arena }; answer = status s.answer }

abbrev pub delivered : After → Done
delivered a = record { world = record { engine = a.engine; arena = a.arena }; answer = status a.answer }

-- whether an answer has what was asked for
abbrev pub tells : {T : Type 0} → Result T Refusal → Result Bool Refusal
tells (Ok t) = Ok true
tells (Err e) = Err e

abbrev pub tells_some : {T : Type 0} → Result (Option T) Refusal → Result Bool Refusal
tells_some (Ok (Some t)) = Ok true
tells_some (Ok None) = Ok false
tells_some (Err e) = Err e

abbrev pub reading : Reading → Engine → List ℕ → Answer
reading its_ahead e arena = known (tells (Engines.ahead e arena))
reading its_header e arena = known (tells_some (Engines.header e arena))
reading its_heading e arena = headed (Engines.heading e arena)
reading its_loads e arena = counted (Engines.loads e arena)
reading its_steps e arena = counted (Engines.steps e arena)

-- the engine with another state of its cache
abbrev pub with_cache : Engine → Cache → Engine
with_cache e c = record { shared = record { phase = e.shared.phase; header = e.shared.header; cache = c }; follower = e.follower }

abbrev pub cache_of : World → Cached.World
cache_of w = record { cache = w.engine.shared.cache; arena = w.arena }

abbrev pub in_cache : World → Cached.Done → Done
in_cache w d = record { world = record { engine = with_cache w.engine d.world.cache; arena = d.world.arena }; answer = cached d.answer }

abbrev pub aged : World → Cache → Answer → Done
aged w c a = record { world = record { engine = with_cache w.engine c; arena = w.arena }; answer = a }

unfoldable pub exec : Call → World → Done
exec (fix f) w = changed w (Engines.fix w.engine w.arena f)
exec lost w = changed w (Engines.lost w.engine w.arena)
exec (reset P) w = changed w (Engines.reset w.engine w.arena)
exec step w = stepped w (Engines.step w.engine w.arena)
exec (deliver failure bs) w = delivered (Engines.deliver w.engine w.arena failure bs)
exec (step_from Q) w = delivered (Engines.step_from w.engine w.arena Q)
exec (read r) w = same w (reading r w.engine w.arena)
exec (on_cache c) w = in_cache w (Cached.exec c (cache_of w))
exec (nearby h p) w = same w (around (Matching.nearby h p).answer)
exec (current m) w = same w (holding (Matching.current m))
exec (update m h p heading) w =
    let u = Matching.update m w.engine.shared.cache w.arena h p heading in aged w u.cache (matched u.answer u.matcher)
exec (predict h m horizon samples behind) w =
    let x = Predict.predict w.engine.shared.cache w.arena h m horizon samples behind in
    aged w x.predicted.cache (predicted x.predicted.answer x.samples x.behind)

-- ---- document 01's number of a refusal, 0 for any other answer: a step of a load that failed is none

abbrev pub number : Answer → ℕ
number (taken a) = number_of_result a
number (status a) = number_of_result a
number (known a) = number_of_result a
number (headed a) = number_of_result a
number (counted a) = number_of_result a
number (cached a) = CacheClaims.number a
number (around a) = number_of_result a
number (holding a) = number_of_result a
number (matched a m) = Matchers.number_of_outcome a
number (predicted a samples behind) = Roads.number_of_outcome a

-- ---- lists

-- an engine of n pages before its first call, over an arena; the horizon is what it was made with
abbrev pub start : ℕ → Float → List ℕ → World
start n horizon arena = record {
  engine = record { shared = unread (Caches.fresh n); follower = Followers.fresh horizon };
  arena = arena;
}

-- Q of each call of a list, in the world that the calls before it left
unfoldable pub Along : (World → Call → Type 0) → List Call → World → Type 0
Along Q [] w = Unit
Along Q (c ∷ cs) w = Q w c × Along Q cs (exec c w).world
