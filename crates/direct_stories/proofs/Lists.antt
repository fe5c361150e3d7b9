-- The corollary is not empty: two lists of calls, computed from the definitions, with one story (`story_one`, `story_two`), in which the premises hold
-- (`fair_one`, `fair_two`). Both have a reset, a match and a road, a fix off the map that clears the match, and a fix for which no match is found. In
-- the second reads of header and chunk are missed, a fetch is withdrawn, a direct `update` is made, and the tile is cleared away and loaded again. The
-- next step of each finishes a match, which is none (`ends_one`, `ends_two`, `none_found`), and by `all_stories` these are equal (`same_match`). A direct `predict` and the empty
-- Memory answer, which takes nineteen loads, are left out as too long to compute.
use Rattle.std.specs.Prelude.{None}
use mathlib.Core.Path.{◌≡◌, refl, sym, ◌∙◌}
use mathlib.Core.Bool.{true}
use mathlib.Core.List.{[], ◌∷◌, ◌++◌}
use native.Mathlib.Omega.{arith}
use lib.ListN.{replicate}
use Rattle.cache.specs.State as Caches
use Rattle.cache.specs.Calls as CacheCalls
use Rattle.matcher.specs.Calls as Matching
use Rattle.matcher.specs.State as Matchers
use Rattle.matcher.specs.Settle as Settle
use Rattle.engine.specs.Publish as Publish
use Rattle.engine.specs.Follow as Followers
use Rattle.engine.specs.State as Engines
use Rattle.engine.specs.Work as Work
use Rattle.engine.specs.Calls as Calls
use Rattle.direct.specs.Lists.{step}
use Rattle.direct.specs.Finished.{is_match, shown}
use Rattle.direct.specs.Claims.{AllFair}
use Rattle.direct.specs.Story as Story
use Rattle.direct.specs.Story.{Event, story, after, matcher_of}
use Rattle.direct.proofs.Stories.{all_stories}
use Rattle.direct_witness.specs.Witness.{pack, horizon, begin}
use Rattle.direct_witness.proofs.Witness.{lists, parsed, no_failure}
use Rattle.direct_stories.specs.Stories.{Stories, one, two, told}

unfoldable all : Unit {0}
unfolding lists Caches.cleared Caches.lent_ok CacheCalls.clear Matching.update Matchers.call_ok Settle.missed Publish.without_match Followers.reset Engines.forgotten Work.off_map Calls.reset
all = tt

pub story_one : story one begin ≡ told
unfolding all Story.events Story.story
story_one = refl

pub story_two : story two begin ≡ told
unfolding all Story.events Story.story
story_two = refl

pub ends_one : is_match (shown (after one begin) step) ≡ true
unfolding all Story.after
ends_one = refl

pub ends_two : is_match (shown (after two begin) step) ≡ true
unfolding all Story.after
ends_two = refl

-- the far fix has no match
pub none_found : (matcher_of (shown (after one begin) step)).current ≡ None
unfolding all Story.after
none_found = refl

pub fair_one : AllFair pack (one ++ (step ∷ [])) begin
unfolding all AllFair
fair_one = (tt, (tt, (λ i. (i, refl), (tt, (λ i. (i, refl), (λ i. (i, refl), (tt, (tt, (tt, (tt, (tt, (tt, tt))))))))))))

pub fair_two : AllFair pack (two ++ (step ∷ [])) begin
unfolding all AllFair
fair_two = (
  tt,
  (tt, (tt, (tt, (λ a. no_failure, (λ i. (i, refl), (tt, (λ i. (i, refl), (tt, (λ a. no_failure, (λ i. (i, refl), (λ i. (i, refl), (parsed, (tt, (tt, (tt, (tt, (tt, (tt, (tt, (λ i. (i, refl), (λ i. (i, refl), (tt, tt)))))))))))))))))))))),
)

pub same_match : matcher_of (shown (after two begin) step) ≡ matcher_of (shown (after one begin) step)
same_match =
    (all_stories 1 (omega arith) horizon pack (replicate 8192 0) (replicate 8192 0) one two step fair_one fair_two (story_one ∙ sym story_two)
    ).matches ends_one ends_two

-- ---- all of it

pub stories : Stories
stories = record {
  story_one = story_one;
  story_two = story_two;
  ends_one = ends_one;
  ends_two = ends_two;
  none_found = none_found;
  fair_one = fair_one;
  fair_two = fair_two;
  same_match = same_match;
}
