-- A step, a delivery and a step over a lent pack as they cross to C: the words' own calls (`Calls` of words), their answers as records. So do a match and a road, past the tests of what
-- comes beside the engine's words.
use Prim.Native.Nat.{ℕ}
use mathlib.Core.Path.{◌≡◌, refl, sym}
use mathlib.Core.Bool.{Bool, true, false, cond}
use mathlib.Core.List.{List}
use lib.Dec.{leb}
use lib.IntN.{ℤ}
use lib.Ieee.{Float}
use Rattle.pack.specs.declared.Header.{Header}
use Rattle.geo.specs.declared.Point.{Point}
use Rattle.engine.specs.Calls as Engines
use Rattle.engine.specs.Deliver.{After}
use Rattle.engine.specs.declared.Stepped.{Stepped}
use Rattle.words.specs.Calls as Calls
use Rattle.words.specs.Calls.{left}
use Rattle.words.specs.Words.{accepted, matcher_of, matcher_words, shared_of, engine_of}
use Rattle.words.proofs.SameLaws.{same_is}
use Rattle.terrain.specs.Host as Host
use Rattle.terrain.specs.Roads as Roads
use Rattle.terrain.specs.declared.host.MatchTold.{MatchTold}
use Rattle.terrain.specs.declared.roads.TerrainHeading.{TerrainHeading}

module _ (ws arena : List ℕ) where
  moved_told : (b : Bool) (s : Stepped) → Host.status_told (cond b (Calls.moved s) (Calls.stays ws)).answer ≡ (cond b (Host.moved s) (Host.rests ws)).answer
  moved_told true s = refl
  moved_told false s = refl

  moved_words : (b : Bool) (s : Stepped) → (cond b (Calls.moved s) (Calls.stays ws)).words ≡ (cond b (Host.moved s) (Host.rests ws)).words
  moved_words true s = refl
  moved_words false s = refl

  given_told : (b : Bool) (a : After) → Host.status_told (cond b (Calls.delivered a) (Calls.keeps ws arena)).answer ≡ (cond b (Host.delivered a) (Host.keeps ws arena)).answer
  given_told true a = refl
  given_told false a = refl

  given_words : (b : Bool) (a : After) → (cond b (Calls.delivered a) (Calls.keeps ws arena)).words ≡ (cond b (Host.delivered a) (Host.keeps ws arena)).words
  given_words true a = refl
  given_words false a = refl

  given_arena : (b : Bool) (a : After) → (cond b (Calls.delivered a) (Calls.keeps ws arena)).arena ≡ (cond b (Host.delivered a) (Host.keeps ws arena)).arena
  given_arena true a = refl
  given_arena false a = refl

  pub step_told : Host.status_told (Calls.step ws arena).answer ≡ (Host.step ws arena).answer
  unfolding Calls.step Host.step
  step_told = moved_told (accepted ws) (Engines.step (engine_of ws) arena)

  pub step_words : (Calls.step ws arena).words ≡ (Host.step ws arena).words
  unfolding Calls.step Host.step
  step_words = moved_words (accepted ws) (Engines.step (engine_of ws) arena)

  module _ (failure : ℕ) (bs : List ℕ) where
    pub deliver_told : Host.status_told (Calls.deliver ws arena failure bs).answer ≡ (Host.deliver ws arena failure bs).answer
    unfolding Calls.deliver Host.deliver
    deliver_told = given_told (accepted ws) (Engines.deliver (engine_of ws) arena failure bs)

    pub deliver_words : (Calls.deliver ws arena failure bs).words ≡ (Host.deliver ws arena failure bs).words
    unfolding Calls.deliver Host.deliver
    deliver_words = given_words (accepted ws) (Engines.deliver (engine_of ws) arena failure bs)

    pub deliver_arena : (Calls.deliver ws arena failure bs).arena ≡ (Host.deliver ws arena failure bs).arena
    unfolding Calls.deliver Host.deliver
    deliver_arena = given_arena (accepted ws) (Engines.deliver (engine_of ws) arena failure bs)

  module _ (pack : List ℕ) where
    pub from_told : Host.status_told (Calls.step_from ws arena pack).answer ≡ (Host.step_from ws arena pack).answer
    unfolding Calls.step_from Host.step_from
    from_told = given_told (accepted ws) (Engines.step_from (engine_of ws) arena pack)

    pub from_words : (Calls.step_from ws arena pack).words ≡ (Host.step_from ws arena pack).words
    unfolding Calls.step_from Host.step_from
    from_words = given_words (accepted ws) (Engines.step_from (engine_of ws) arena pack)

    pub from_arena : (Calls.step_from ws arena pack).arena ≡ (Host.step_from ws arena pack).arena
    unfolding Calls.step_from Host.step_from
    from_arena = given_arena (accepted ws) (Engines.step_from (engine_of ws) arena pack)

-- ---- a match and a road

-- words that are a matcher's are its words again
kept : (ms : List ℕ) → Roads.is_matcher ms ≡ true → matcher_words (matcher_of ms 0) ≡ ms
unfolding Roads.is_matcher
kept ms is = same_is (matcher_words (matcher_of ms 0)) ms is

module _ (ms ws arena : List ℕ) (h : Header) (fix : Point) (heading : TerrainHeading) (is : Roads.is_matcher ms ≡ true) (known : leb heading.known 1 ≡ true) where
  pub update_words : Roads.update ms ws arena h fix heading ≡ Calls.update ws arena (matcher_of ms 0) h fix (Roads.heading_of heading)
  unfolding Calls.update engine_of shared_of
  update_words = rw (is, known)

  pub update_matcher : Roads.matcher_after ms ws arena h fix heading ≡ matcher_words (Calls.update ws arena (matcher_of ms 0) h fix (Roads.heading_of heading)).matcher
  unfolding Calls.update engine_of shared_of
  update_matcher = by (accepted ws) refl
    where
      by : (t : Bool) → accepted ws ≡ t
          → Roads.matcher_after ms ws arena h fix heading ≡ matcher_words (Calls.update ws arena (matcher_of ms 0) h fix (Roads.heading_of heading)).matcher
      by true e = rw (is, known, e)
      by false e = rw (is, known, e) (sym (kept ms is))

  pub update_engine : Roads.engine_after ms ws arena h fix heading ≡ left ws (Calls.update ws arena (matcher_of ms 0) h fix (Roads.heading_of heading)).cache
  unfolding Calls.update engine_of shared_of
  update_engine = by (accepted ws) refl
    where
      by : (t : Bool) → accepted ws ≡ t
          → Roads.engine_after ms ws arena h fix heading ≡ left ws (Calls.update ws arena (matcher_of ms 0) h fix (Roads.heading_of heading)).cache
      by true e = rw (is, known, e)
      by false e = rw (is, known, e)

module _ (ws arena : List ℕ) (h : Header) (start : MatchTold) (horizon : Float) (samples behind : List ℤ) (is : Roads.is_given start ≡ true) where
  pub predict_words : Roads.predict ws arena h start horizon samples behind ≡ Calls.predict ws arena h (Roads.given start) horizon samples behind
  unfolding Calls.predict engine_of shared_of
  predict_words = rw is

  pub predict_engine : Roads.predict_after ws arena h start horizon samples behind ≡ left ws (Calls.predict ws arena h (Roads.given start) horizon samples behind).predicted.cache
  unfolding Calls.predict engine_of shared_of
  predict_engine = by (accepted ws) refl
    where
      by : (t : Bool) → accepted ws ≡ t
          → Roads.predict_after ws arena h start horizon samples behind ≡ left ws (Calls.predict ws arena h (Roads.given start) horizon samples behind).predicted.cache
      by true e = rw (is, e)
      by false e = rw (is, e)
