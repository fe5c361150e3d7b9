-- The corollary is not empty: two lists of calls, computed from the definitions, with one story (`story_one`, `story_two`), in which the premises hold
-- (`fair_one`, `fair_two`). Both have a reset, a match and a road, a fix off the map that clears the match, and a fix for which no match is found. In
-- the second reads of header and chunk are missed, a fetch is withdrawn, a direct `update` is made, and the tile is cleared away and loaded again. The
-- next step of each finishes a match, which is none (`ends_one`, `ends_two`, `none_found`), and by `all_stories` these are equal (`same_match`). A direct `predict` and the empty
-- Memory answer, which takes nineteen loads, are left out as too long to compute.
use Rattle.std.specs.Prelude.{None, ◌≡◌, true, List, [], ◌∷◌, ◌++◌, pos, negsuc}
use Rattle.cache_lists.specs.Lists as Cached
use Rattle.matcher.specs.Calls as Matching
use Rattle.matcher.specs.declared.Heading.TheVariants as Heading
use Rattle.engine.specs.declared.Fix.{Fix}
use Rattle.direct.specs.Lists.{Call, fix, reset, step, deliver, step_from, on_cache, update}
use Rattle.direct.specs.Finished.{is_match, shown}
use Rattle.direct.specs.Claims.{AllFair}
use Rattle.direct.specs.Story as Story
use Rattle.direct.specs.Story.{Event, story, after, matcher_of}
use Rattle.direct_witness.specs.Witness.{pack, header, begin, fix_at}

-- on the road; south of the grid; far from the road
abbrev on : Fix
on = fix_at 5000 1000

abbrev off : Fix
off = record { lat = negsuc 9; lon = pos 5000; at_ms = 2000 }

abbrev far : Fix
far = record { lat = pos 9000; lon = pos 5000; at_ms = 3000 }

-- every read answered: the header, the entry and the tile; then the match and the road; off the map; and the far fix
abbrev pub one : List Call
one =
    reset pack ∷ fix on ∷ step_from pack ∷ step ∷ step_from pack ∷ step_from pack ∷ step ∷ step
    ∷ fix off ∷ step ∷ fix far ∷ []

-- the header's fetch withdrawn by the reset, then missed; the chunk missed, so that the entry is read again; a match by a direct call; and once the fix is
-- far the tile is cleared away and read again
abbrev pub two : List Call
two =
    step ∷ reset pack ∷ fix on ∷ step ∷ deliver 1 [] ∷ step_from pack ∷ step ∷ step_from pack ∷ step ∷ deliver 1 [] ∷ step_from pack ∷ step_from pack
    ∷ update Matching.reset header (record { lat = pos 5000; lon = pos 5000 }) Heading.Nothing ∷ step ∷ step
    ∷ fix off ∷ step ∷ fix far ∷ on_cache Cached.clear ∷ step ∷ step_from pack ∷ step_from pack ∷ []

abbrev pub told : List Event
told = Story.reset pack ∷ Story.fixed on ∷ Story.matched ∷ Story.fixed off ∷ Story.cleared ∷ Story.fixed far ∷ []

pub record Stories : Type 0 where
  pub story_one : story one begin ≡ told
  pub story_two : story two begin ≡ told
  pub ends_one : is_match (shown (after one begin) step) ≡ true
  pub ends_two : is_match (shown (after two begin) step) ≡ true
  -- the far fix has no match
  pub none_found : (matcher_of (shown (after one begin) step)).current ≡ None
  pub fair_one : AllFair pack (one ++ (step ∷ [])) begin
  pub fair_two : AllFair pack (two ++ (step ∷ [])) begin
  pub same_match : matcher_of (shown (after two begin) step) ≡ matcher_of (shown (after one begin) step)
