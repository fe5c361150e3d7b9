-- The calls on words. A step, a delivery and a step over a lent pack: the engine's own call (`Calls` of the engine) on the engine that the words are, and what it leaves as words again.
-- Words that are no engine's are refused with 12, and nothing lent is changed.
use Rattle.refusal.specs.declared.Refusal.{Refusal}
use Rattle.std.specs.Prelude.{Result, Err, ℕ, cond, List, ℤ, Float}
use Rattle.pack.specs.declared.Header.{Header}
use Rattle.geo.specs.declared.Point.{Point}
use Rattle.cache.specs.declared.Cache.{Cache}
use Rattle.matcher.specs.Calls as Matching
use Rattle.matcher.specs.State.{refused}
use Rattle.matcher.specs.declared.Heading.{Heading}
use Rattle.matcher.specs.declared.Matched.{Matched}
use Rattle.matcher.specs.declared.Matcher.{Matcher}
use Rattle.matcher.specs.declared.Updated.{Updated}
use Rattle.predict.specs.Predict as Predict
use Rattle.predict.specs.Predict.{After}
use Rattle.engine.specs.Calls as Calls
use Rattle.engine.specs.Deliver as Deliver
use Rattle.engine.specs.declared.Status.{Status}
use Rattle.engine.specs.declared.Stepped.{Stepped}
use Rattle.engine.specs.declared.Engine.{Engine}
use Rattle.words.specs.Words.{words, engine_of, cache_of, accepted}

-- an answer, and the words and the arena that are left
pub record Moved : Type 0 where
  pub answer : Result Status Refusal
  pub words : List ℕ

pub record Delivered : Type 0 where
  pub answer : Result Status Refusal
  pub words : List ℕ
  pub arena : List ℕ

abbrev pub moved : Stepped → Moved
moved s = record { answer = s.answer; words = words s.engine }

abbrev pub delivered : Deliver.After → Delivered
delivered a = record { answer = a.answer; words = words a.engine; arena = a.arena }

abbrev pub stays : List ℕ → Moved
stays ws = record { answer = Err Refusal.BadState; words = ws }

abbrev pub keeps : List ℕ → List ℕ → Delivered
keeps ws arena = record { answer = Err Refusal.BadState; words = ws; arena = arena }

unfoldable pub step : List ℕ → List ℕ → Moved
step ws arena = cond (accepted ws) (moved (Calls.step (engine_of ws) arena)) (stays ws)

unfoldable pub deliver : List ℕ → List ℕ → ℕ → List ℕ → Delivered
deliver ws arena failure bs = cond (accepted ws) (delivered (Calls.deliver (engine_of ws) arena failure bs)) (keeps ws arena)

unfoldable pub step_from : List ℕ → List ℕ → List ℕ → Delivered
step_from ws arena pack = cond (accepted ws) (delivered (Calls.step_from (engine_of ws) arena pack)) (keeps ws arena)

-- ---- the matcher's and predict's own calls (`Calls` of the matcher, `Predict` of predict), on the cache of the engine that the words are

abbrev pub with_cache : Cache → Engine → Engine
with_cache c e = record { shared = record { phase = e.shared.phase; header = e.shared.header; cache = c }; follower = e.follower }

-- the words after a call that left the cache c
abbrev pub left : List ℕ → Cache → List ℕ
left ws c = cond (accepted ws) (words (with_cache c (engine_of ws))) ws

unfoldable pub update : List ℕ → List ℕ → Matcher → Header → Point → Heading → Updated
update ws arena m h fix heading = cond (accepted ws) (Matching.update m (cache_of ws 15) arena h fix heading) (refused m (cache_of ws 15) Refusal.BadState)

unfoldable pub predict : List ℕ → List ℕ → Header → Matched → Float → List ℤ → List ℤ → After
predict ws arena h m horizon samples behind =
    cond (accepted ws)
    (Predict.predict (cache_of ws 15) arena h m horizon samples behind)
    (Predict.untouched (Predict.refused (cache_of ws 15) Refusal.BadState) samples behind)
