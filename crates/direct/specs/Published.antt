-- What a host reads of the road between the calls. Demand 3 says of a finished match or road that it is the direct engine's; here is said that nothing else
-- is ever published: a call leaves the published road as it was, or leaves the one that it finished, or an empty one (`lost`, `reset`, and the empty
-- Memory answer at the reload limit, which document 01 does not count as finished, and whose match is one that was). So a missed read, a delivery, an
-- eviction or a direct call can't change a road once it is published. `AllPublished` and `AllRead` are claimed with no premise, `AllReadDirect` on
-- demand 3's.
use Rattle.std.specs.Prelude.{Option, Some, ℕ, ◌≤◌, ◌≡◌, false, List, [], ◌∷◌, ◌⊎◌, Float}
use Rattle.matcher.specs.declared.Matched.{Matched}
use Rattle.engine.specs.Calls.{ahead_in}
use Rattle.engine.specs.Publish.{nothing_ahead, forgotten, with_match}
use Rattle.engine.specs.declared.Ahead.{Ahead}
use Rattle.engine.specs.declared.Fix.{Fix}
use Rattle.engine.specs.Work.{may_ask, no_road}
use Rattle.engine.specs.Calls as Engines
use Rattle.engine.specs.declared.Engine.{Engine}
use Rattle.direct.specs.Lists as Calls
use Rattle.direct.specs.Lists.{World, Call, exec, start, Along}
use Rattle.direct.specs.Finished as Shows
use Rattle.direct.specs.Finished.{Road, road_of, Shown, shown}
use Rattle.direct.specs.Direct.{directly, new_direct, direct_shows}
use Rattle.direct.specs.Claims.{tolds, shows, AllFair, made_of}
use Rattle.direct.specs.Story.{after}

-- the road r is the one that was finished, as the engine leaves it
abbrev pub FinishedRoad : Road → Shown → Type 0
FinishedRoad r (Shows.published q) = r ≡ q
FinishedRoad r (Shows.unmatched m q) = r ≡ q
FinishedRoad r (Shows.emptied m q) = r ≡ q
FinishedRoad r Shows.nothing = ⊥
FinishedRoad r (Shows.matched m) = ⊥
FinishedRoad r (Shows.again number m) = ⊥
FinishedRoad r (Shows.updated a m) = ⊥
FinishedRoad r (Shows.predicted a samples behind) = ⊥
FinishedRoad r Shows.unanswered = ⊥

-- c is how the match that was finished ended
abbrev pub FinishedMatch : Option Matched → Shown → Type 0
FinishedMatch c (Shows.matched m) = c ≡ m.current
FinishedMatch c (Shows.unmatched m q) = c ≡ m.current
FinishedMatch c (Shows.published q) = ⊥
FinishedMatch c (Shows.emptied m q) = ⊥
FinishedMatch c Shows.nothing = ⊥
FinishedMatch c (Shows.again number m) = ⊥
FinishedMatch c (Shows.updated a m) = ⊥
FinishedMatch c (Shows.predicted a samples behind) = ⊥
FinishedMatch c Shows.unanswered = ⊥

-- ---- a call

-- the empty Memory answer, at the newest fix, for the current match, where the road asked for as many tiles as it may
pub record AtLimit (e : Engine) (pages : ℕ) (a : Ahead) : Type 0 where
  pub asked : may_ask e.follower.due pages ≡ false
  pub fix : Fix
  pub found : Matched
  pub newest : e.follower.sight.fix ≡ Some fix
  pub current : e.follower.matcher.current ≡ Some found
  pub memory : a ≡ with_match e.follower.ahead fix.at_ms found no_road

-- the road that stands published after a call: as it was, every field; the one that the call finished; the empty one with the next generation; the
-- empty Memory answer of a step, or of one over a lent pack
pub data Publishes (w : World) : Call → Ahead → Type 0 where
  kept : {c : Call} → Publishes w c w.engine.follower.ahead
  finished : {c : Call} {a : Ahead} → FinishedRoad (road_of a) (shown w c) → Publishes w c a
  by_lost : Publishes w Calls.lost (forgotten w.engine.follower.ahead)
  by_reset : {P : List ℕ} → Publishes w (Calls.reset P) (forgotten w.engine.follower.ahead)
  at_limit : {a : Ahead} → AtLimit w.engine (exec Calls.step w).world.engine.shared.cache.pages.count a → Publishes w Calls.step a
  lent_at_limit : {Q : List ℕ} {a : Ahead} → AtLimit w.engine (exec (Calls.step_from Q) w).world.engine.shared.cache.pages.count a
      → Publishes w (Calls.step_from Q) a

abbrev pub AllPublished : Type 0
AllPublished =
    (n : ℕ) (horizon : Float) (arena : List ℕ) (cs : List Call) →
    Along (λ w c. Publishes w c (exec c w).world.engine.follower.ahead) cs (start n horizon arena)

-- ---- a list

-- of one of those that were finished
unfoldable pub Among : (Shown → Type 0) → List Shown → Type 0
Among Q [] = ⊥
Among Q (s ∷ ss) = Q s ⊎ Among Q ss

-- no match and no height: `Ahead::default()`
abbrev pub blank : Road
blank = road_of (nothing_ahead 0)

-- the empty Memory answer for a match
abbrev pub memory_of : ℕ → Matched → Road
memory_of at found = road_of (with_match (nothing_ahead 0) at found no_road)

-- a road that is read: none; one that was finished; the empty Memory answer for a match that was finished
pub data Read (ss : List Shown) (r : Road) : Type 0 where
  is_blank : r ≡ blank → Read ss r
  was_finished : Among (FinishedRoad r) ss → Read ss r
  is_memory : (at : ℕ) (found : Matched) → r ≡ memory_of at found → Among (FinishedMatch (Some found)) ss → Read ss r

-- the road that `ahead` answers
abbrev pub read_of : World → Road
read_of w = road_of (ahead_in (Engines.ahead w.engine w.arena))

-- after any list of calls a host reads what the list finished
abbrev pub AllRead : Type 0
AllRead =
    (n : ℕ) (horizon : Float) (arena : List ℕ) (cs : List Call) → Read (shows cs (start n horizon arena)) (read_of (after cs (start n horizon arena)))

-- on demand 3's premises it reads what the direct engine worked out
abbrev pub AllReadDirect : Type 0
AllReadDirect =
    (n : ℕ) → n ≤ 96 → (horizon : Float) (arena P : List ℕ) (cs : List Call) → AllFair P cs (start n horizon arena) →
    Read (direct_shows (directly n) (made_of n horizon) P cs (tolds cs (start n horizon arena)) new_direct) (read_of (after cs (start n horizon arena)))
