-- The states that number 12 leaves alone: a new engine, over any arena and with any horizon (`new_ok`). Every page of a fresh cache is the empty
-- one, it has no more pages than the arena, and a new follower holds nothing.
use Rattle.std.proofs.Common.{◌≡◌, ℕ, ◌*◌, ◌/◌, ◌<◌, ◌≤◌, min, true, List, length, replicate, arith, le-leb}
use lib.Ieee.{Float}
use lib.ListN.{get_or-replicate}
use Rattle.cache.specs.Runs.{empty_slot, page_ok}
use Rattle.cache.proofs.Below.{all_from}
use Rattle.cache.specs.Search.{lowest}
use Rattle.cache.specs.State as Caches
use Rattle.cache.specs.State.{state_ok}
use Rattle.engine.specs.Publish.{nothing_ahead}
use Rattle.engine.specs.Follow as Followers
use Rattle.engine.specs.State.{shared_ok, places_ok, reload_limit, engine_ok}
use Rattle.engine.specs.Calls.{new}

empty_page : (count p : ℕ) → p < 96 → page_ok (replicate 96 empty_slot) count p ≡ true
empty_page count p h = rw (get_or-replicate 96 p empty_slot empty_slot h)

fresh_ok : (n : ℕ) → n ≤ 96 → state_ok (Caches.fresh n) ≡ true
unfolding state_ok Caches.fresh
fresh_ok n h = rw (le-leb n 96 h, all_from (page_ok (replicate 96 empty_slot) n) 96 (empty_page n))

pub new_ok : (arena : List ℕ) (horizon : Float) → engine_ok (new arena horizon) (length arena) ≡ true
unfolding new Caches.fresh Followers.fresh nothing_ahead places_ok lowest shared_ok engine_ok
new_ok arena horizon =
    let n = min (length arena / 8192) 96 in
    rw (fresh_ok n (omega arith), le-leb (n * 8192) (length arena) (omega arith), le-leb 0 (reload_limit n) (omega arith))
