-- The customer's corollary: "a finished match or road shows memory only through the page count, and failed reads, dropped loads, evictions and resets
-- only through which fixes were matched before it and what a reset clears" (demand 3). Of the Rust, and so of the port, that holds but for one thing: a
-- step that finds the fix off the map clears the matcher where a road stands published, and a missed read can put that road off until the fix has left
-- the map, or that step until the next fix has come (docs/DEMAND3.md has such lists). So `story`, which is what is left of a list of calls once reads,
-- failures, loads, evictions and direct calls are left out, has the fixes and losses that were taken, the resets, which fixes were matched, and where
-- the match was cleared. Lists with the same story finish the same. Settled.antt says when the last can be left out.
use Rattle.std.specs.Prelude.{ℕ, ◌≤◌, ◌≡◌, true, cond, List, [], ◌∷◌, ◌++◌, eqb, Float}
use Rattle.matcher.specs.Calls as Matching
use Rattle.matcher.specs.declared.Matcher.{Matcher}
use Rattle.engine.specs.declared.Fix.{Fix}
use Rattle.direct.specs.Lists as Calls
use Rattle.direct.specs.Lists.{World, Call, number, exec, start}
use Rattle.direct.specs.Finished as Shows
use Rattle.direct.specs.Finished.{Shown, is_match, is_road, shown}
use Rattle.direct.specs.Claims.{AllFair}

pub data Event : Type 0 where
  -- a fix, and a loss of fixes, that was taken; a reset to a pack
  fixed : Fix → Event
  lost : Event
  reset : List ℕ → Event
  -- the fix was matched, or none was found
  matched : Event
  -- the match was cleared: off the map, because a road stood published; or by 6 or 10
  cleared : Event

-- of a call that was not refused
abbrev pub taken : ℕ → Event → List Event
taken k x = cond (eqb k 0) (x ∷ []) []

abbrev pub events_of : Shown → List Event
events_of Shows.nothing = []
events_of (Shows.matched m) = matched ∷ []
events_of (Shows.unmatched m r) = matched ∷ []
events_of (Shows.published r) = []
events_of (Shows.again k m) = cleared ∷ []
events_of (Shows.emptied m r) = cleared ∷ []
events_of (Shows.updated a m) = []
events_of (Shows.predicted a samples behind) = []
events_of Shows.unanswered = []

unfoldable pub events : World → Call → List Event
events w (Calls.fix f) = taken (number (exec (Calls.fix f) w).answer) (fixed f)
events w Calls.lost = taken (number (exec Calls.lost w).answer) lost
events w (Calls.reset P) = taken (number (exec (Calls.reset P) w).answer) (reset P)
events w Calls.step = events_of (shown w Calls.step)
events w (Calls.step_from Q) = events_of (shown w (Calls.step_from Q))
events w (Calls.deliver failure bs) = []
events w (Calls.read r) = []
events w (Calls.on_cache c) = []
events w (Calls.nearby h p) = []
events w (Calls.current m) = []
events w (Calls.update m h p heading) = []
events w (Calls.predict h m horizon samples behind) = []

unfoldable pub story : List Call → World → List Event
story [] w = []
story (c ∷ cs) w = events w c ++ story cs (exec c w).world

-- the world that a list leaves
unfoldable pub after : List Call → World → World
after [] w = w
after (c ∷ cs) w = after cs (exec c w).world

-- the matcher of a finished match: its current match, or none, is how it ended
abbrev pub matcher_of : Shown → Matcher
matcher_of Shows.nothing = Matching.reset
matcher_of (Shows.matched m) = m
matcher_of (Shows.unmatched m r) = m
matcher_of (Shows.published r) = Matching.reset
matcher_of (Shows.again k m) = m
matcher_of (Shows.emptied m r) = m
matcher_of (Shows.updated a m) = m
matcher_of (Shows.predicted a samples behind) = Matching.reset
matcher_of Shows.unanswered = Matching.reset

-- two finished by one call: matches are equal, whether or not a road was emptied with them; so is all of it where the same was finished
pub record SameFinish (s t : Shown) : Type 0 where
  pub matches : is_match s ≡ true → is_match t ≡ true → matcher_of t ≡ matcher_of s
  pub all : is_match t ≡ is_match s → is_road t ≡ is_road s → t ≡ s

-- two lists over their own arenas, of the same page count and horizon and the same pack at first, with the same story: whatever a call finishes after
-- the one, it finishes equally after the other, a direct call too. Which reads failed, what was evicted or dropped, and the direct calls before it may
-- differ
abbrev pub AllStories : Type 0
AllStories =
    (n : ℕ) → n ≤ 96 → (horizon : Float) (P one two : List ℕ) (cs ds : List Call) (c : Call) → AllFair P (cs ++ (c ∷ [])) (start n horizon one) →
    AllFair P (ds ++ (c ∷ [])) (start n horizon two) → story cs (start n horizon one) ≡ story ds (start n horizon two) →
    SameFinish (shown (after cs (start n horizon one)) c) (shown (after ds (start n horizon two)) c)
