-- The claims of this crate about the public calls, each of every engine and arena. Closed: no call makes a state that 12 names out of one that it does
-- not. Sizes: the cache keeps the 96 slots that its array has, which some of Closed ask for. Between: an open fetch.
use Rattle.std.specs.Prelude.{Ok, ℕ, ◌≡◌, true, List, Float, length}
use Rattle.pack.specs.Grid.{is_point}
use Rattle.cache.specs.declared.Pending.TheVariants as Pending
use Rattle.engine.specs.Calls as Calls
use Rattle.engine.specs.Deliver.{After}
use Rattle.engine.specs.Follow as Followers
use Rattle.engine.specs.State.{engine_ok}
use Rattle.engine.specs.declared.Engine.{Engine}
use Rattle.engine.specs.declared.Fix.{Fix}
use Rattle.engine.specs.declared.Follower.{Follower}
use Rattle.engine.specs.declared.Status.TheVariants as Status
use Rattle.engine_states.specs.First.{FirstStep}
use Rattle.engine_states.specs.Refused.{RefusedSame}

-- the cache's array, as long as it is declared
abbrev pub Sized : Engine → Type 0
Sized e = length e.shared.cache.pages.slots ≡ 96

-- over an arena of any length n
pub record Closed : Type 0 where
  pub fix : (e : Engine) (arena : List ℕ) (f : Fix) (n : ℕ) → engine_ok e n ≡ true → engine_ok (Calls.fix e arena f).engine n ≡ true
  pub lost : (e : Engine) (arena : List ℕ) (n : ℕ) → engine_ok e n ≡ true → engine_ok (Calls.lost e arena).engine n ≡ true
  pub reset : (e : Engine) (arena : List ℕ) (n : ℕ) → engine_ok e n ≡ true → engine_ok (Calls.reset e arena).engine n ≡ true
  pub step : (e : Engine) (arena : List ℕ) (n : ℕ) → engine_ok e n ≡ true → engine_ok (Calls.step e arena).engine n ≡ true
  pub deliver : (e : Engine) (arena : List ℕ) (failure : ℕ) (bs : List ℕ) (n : ℕ) → Sized e → engine_ok e n ≡ true
      → engine_ok (Calls.deliver e arena failure bs).engine n ≡ true
  pub step_from : (n : ℕ) (e : Engine) (arena pack : List ℕ) → Sized e → engine_ok e n ≡ true → engine_ok (Calls.step_from e arena pack).engine n ≡ true

pub record Sizes : Type 0 where
  pub new : (arena : List ℕ) (horizon : Float) → Sized (Calls.new arena horizon)
  pub fix : (e : Engine) (arena : List ℕ) (f : Fix) → Sized e → Sized (Calls.fix e arena f).engine
  pub lost : (e : Engine) (arena : List ℕ) → Sized e → Sized (Calls.lost e arena).engine
  pub reset : (e : Engine) (arena : List ℕ) → Sized e → Sized (Calls.reset e arena).engine
  pub step : (e : Engine) (arena : List ℕ) → Sized e → Sized (Calls.step e arena).engine
  pub deliver : (e : Engine) (arena : List ℕ) (failure : ℕ) (bs : List ℕ) → Sized e → Sized (Calls.deliver e arena failure bs).engine

-- of the first step of every new engine
abbrev pub FirstSteps : Type 0
FirstSteps = (arena : List ℕ) (horizon : Float) → FirstStep arena horizon

-- of every refused call
abbrev pub RefusedCalls : Type 0
RefusedCalls = (e : Engine) (arena : List ℕ) → RefusedSame e arena

-- what a delivery leaves, with this done to the follower
abbrev pub followed_by : (Follower → Follower) → After → After
followed_by g x = record { answer = x.answer; engine = record { shared = x.engine.shared; follower = g x.engine.follower }; arena = x.arena }

-- Of an engine that 12 accepts: a fix or the loss of fixes before a delivery is the same after it; where a step opens a fetch, a reset after it is the
-- reset before it, and a step more is the same step.
pub record Between : Type 0 where
  pub fix : (e : Engine) (arena : List ℕ) (f : Fix) (failure : ℕ) (bs : List ℕ) → engine_ok e (length arena) ≡ true → is_point f.lat f.lon ≡ true
      → Calls.deliver (Calls.fix e arena f).engine arena failure bs ≡ followed_by (λ g. Followers.fixed g f) (Calls.deliver e arena failure bs)
  pub lost : (e : Engine) (arena : List ℕ) (failure : ℕ) (bs : List ℕ) → engine_ok e (length arena) ≡ true
      → Calls.deliver (Calls.lost e arena).engine arena failure bs ≡ followed_by Followers.lost (Calls.deliver e arena failure bs)
  pub reset : (e : Engine) (arena : List ℕ) (offset len : ℕ) → engine_ok e (length arena) ≡ true → e.shared.cache.pending ≡ Pending.Nothing
      → (Calls.step e arena).answer ≡ Ok (Status.Fetch offset len) → Calls.reset (Calls.step e arena).engine arena ≡ Calls.reset e arena
  pub step : (e : Engine) (arena : List ℕ) (offset len : ℕ) → engine_ok e (length arena) ≡ true → e.shared.cache.pending ≡ Pending.Nothing
      → (Calls.step e arena).answer ≡ Ok (Status.Fetch offset len) → Calls.step (Calls.step e arena).engine arena ≡ Calls.step e arena
